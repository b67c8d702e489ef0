-- The index of pipes, as they change, and its least.
use Rattle.std.proofs.Common.{◌≡◌, ℕ, ◌+◌, ◌*◌, ◌<◌, ◌≤◌, refl, sym, ap, ◌∙◌, subst, List, [], ◌∷◌, ◌++◌, length, map, take, get_or, set, Option, Some, None, arith, get_or-set_same}
use Rattle.std.specs.Prelude.{option_map, option_to_list, flat_map}
use Rattle.std.specs.List.{All}
use Rattle.std.proofs.Math.ListN.{get_or-map}
use Rattle.std.proofs.lemmas.List.{map-append, map-set, length-map, set-get_or, take_more}
use Rattle.std.proofs.lemmas.List.Elements.{All-nil, All-cons, All-head, All-tail, All-set, All-push, All-get_or}
use Rattle.emu_model.specs.declared.packets.Packet.{Packet}
use Rattle.emu_model.specs.declared.sources.Due.{Due}
use Rattle.emu_model.specs.declared.sources.Class.TheVariants.{Exit, Finish}
use Rattle.emu_model.specs.Dues.{due, instances_dues, pipe_dues}
use Rattle.emu_model.specs.Pipes.{InService, PipeState}
use Rattle.due_index.specs.Least.{dues_in, least_of, lesser}
use Rattle.due_index.specs.Places.{Places}
use Rattle.due_index.proofs.CallerLemmas.{least_all, least_of-all, least_all-append, least_all-option, least_leaf, least_of-leaf}
use Rattle.pipe_core.specs.KeyedInstance.{seen_service}
use Rattle.pipe_core.specs.declared.slot.Slot.{Slot}
use Rattle.pipe_core.specs.Moves.{some_packet}
use Rattle.pipe_core.specs.Keyed.{KeyedPipe, ids_of, seen_slot, seen_pipe}
use Rattle.pipe_core.proofs.CallerLemmas.{first_exit-seen}
use Rattle.pipe_table.specs.Table.{seen_pipes, IsPipeNumber}
use Rattle.pipe_table.specs.Leaves.{leaf_of, IsFit, IsIndexed, AreIndexed}

-- the packets that keys name have no part in what is due
module _ (f g : ℕ → Packet) where
  service-alike : (n : ℕ) (busy : Option (InService ℕ)) →
      option_map (λ s. due Finish n s.period.finish) (option_map (seen_service f) busy)
      ≡ option_map (λ s. due Finish n s.period.finish) (option_map (seen_service g) busy)
  service-alike n None = refl
  service-alike n (Some s) = refl

  dues-alike : (n : ℕ) (slots : List Slot) →
      instances_dues n (map (seen_slot f) slots) ≡ instances_dues n (map (seen_slot g) slots)
  dues-alike n [] = refl
  dues-alike n (s ∷ ss) =
      let in_flight = s.instance.delay_line.line.in_flight in
      let exit = first_exit-seen f in_flight ∙ sym (first_exit-seen g in_flight) in
      let finish = service-alike n s.instance.service.busy in
      (λ t. option_to_list (option_map (due Exit n) (exit t)) ++ option_to_list
      (finish t) ++ dues-alike (n + 1) ss t)

  pub leaf-alike : (p : KeyedPipe) → leaf_of (seen_pipe f p) ≡ leaf_of (seen_pipe g p)
  leaf-alike p = ap least_of (dues-alike (p.number * 256) p.slots)

  leaves-alike : (ps : List KeyedPipe) →
      map leaf_of (seen_pipes f ps) ≡ map leaf_of (seen_pipes g ps)
  leaves-alike [] = refl
  leaves-alike (p ∷ ps) = λ t. leaf-alike p t ∷ leaves-alike ps t

  fit-alike : (ps : List KeyedPipe) → All IsFit (seen_pipes f ps) → All IsFit (seen_pipes g ps)
  fit-alike [] h = All-nil IsFit
  fit-alike (p ∷ ps) h =
      let here : IsFit (seen_pipe f p) = All-head IsFit (seen_pipe f p) (seen_pipes f ps) h in
      All-cons IsFit (seen_pipe g p) (seen_pipes g ps)
      (record {
        number = here.number;
        few = omega
            (arith, here.few, length-map p.slots (seen_slot f), length-map p.slots (seen_slot g));
      })
      (fit-alike ps (All-tail IsFit (seen_pipe f p) (seen_pipes f ps) h))

  pub indexed-alike : (ps : List KeyedPipe) (x : Places) → IsIndexed (seen_pipes f ps) x →
      IsIndexed (seen_pipes g ps) x
  indexed-alike ps x h = record { leaves = h.leaves ∙ leaves-alike ps; fit = fit-alike ps h.fit }

-- other pipes that are shown alike
pub indexed-shown : (f g : ℕ → Packet) (ps qs : List KeyedPipe) (x : Places) →
    seen_pipes g qs ≡ seen_pipes f ps →
    AreIndexed ps x → AreIndexed qs x
indexed-shown f g ps qs x e h =
    λ k. indexed-alike g k qs x (subst (λ ss. IsIndexed ss x) (sym e) (h f))

pub indexed-long : (ps : List KeyedPipe) (x : Places) → AreIndexed ps x →
    length x.leaves ≡ length ps
indexed-long ps x h =
    let f : ℕ → Packet = λ k. some_packet in
    ap length (h f).leaves ∙ length-map (seen_pipes f ps) leaf_of ∙ length-map ps (seen_pipe f)

pub indexed-within : (ps : List KeyedPipe) (x : Places) (i : ℕ) → AreIndexed ps x →
    i < length ps → i < length x.leaves
indexed-within ps x i h l = omega (arith, l, indexed-long ps x h)

-- a pipe changed, and its due was set anew
pub indexed-set : (ps : List KeyedPipe) (i : ℕ) (y w : KeyedPipe) (x z : Places)
    (d : Option Due) → AreIndexed ps x →
    i < length ps → w ≡ get_or (set ps i y) i w → ((f : ℕ → Packet) → d ≡ leaf_of (seen_pipe f w)) →
    IsPipeNumber w.number → length w.slots ≤ 256 → z ≡ record x { leaves = set x.leaves i d } →
    AreIndexed (set ps i y) z
indexed-set ps i y w x z d h l read is number few e = λ f.
    let same : w ≡ y = read ∙ get_or-set_same ps i y w l in
    let ss = seen_pipes f ps in
    let fit : IsFit (seen_pipe f w) =
    record { number = number; few = omega (arith, few, length-map w.slots (seen_slot f)) } in
    subst (λ ss. IsIndexed ss z) (sym (map-set (seen_pipe f) ps i y)) (record {
      leaves = ap (λ (p : Places). p.leaves) e
          ∙ (λ t. set ((h f).leaves t) i ((is f ∙ ap (λ p. leaf_of (seen_pipe f p)) same) t))
          ∙ sym (map-set leaf_of ss i (seen_pipe f y));
      fit = All-set IsFit ss i (seen_pipe f y) (subst (λ p. IsFit (seen_pipe f p)) same fit)
          (h f).fit;
    })

-- the same, by the pipe itself
pub indexed-put : (ps : List KeyedPipe) (i : ℕ) (y : KeyedPipe) (x z : Places) → AreIndexed ps x →
    i < length ps → IsPipeNumber y.number → length y.slots ≤ 256 →
    ((f : ℕ → Packet) → z ≡ record x { leaves = set x.leaves i (leaf_of (seen_pipe f y)) }) →
    AreIndexed (set ps i y) z
indexed-put ps i y x z h l number few e =
    let f : ℕ → Packet = λ k. some_packet in
    indexed-set ps i y y x z (leaf_of (seen_pipe f y)) h l (sym (get_or-set_same ps i y y l)) (λ g. leaf-alike f g y) number few (e f)

-- as many instances have as many identifiers
pub same-ids : (ss tt : List Slot) → ids_of tt ≡ ids_of ss → length tt ≡ length ss
same-ids ss tt e = sym (length-map tt (λ s. s.id)) ∙ ap length e ∙ length-map ss (λ s. s.id)

-- a pipe changed, and its due stayed
pub indexed-same : (ps : List KeyedPipe) (i : ℕ) (x y : KeyedPipe) (z : Places) → AreIndexed ps z →
    i < length ps → x ≡ get_or ps i x → y.number ≡ x.number → length y.slots ≡ length x.slots →
    ((f : ℕ → Packet) → leaf_of (seen_pipe f y) ≡ leaf_of (seen_pipe f x)) →
    AreIndexed (set ps i y) z
indexed-same ps i x y z h l read number long same = λ f.
    let ss = seen_pipes f ps in
    let sx : PipeState = seen_pipe f x in
    let at : sx ≡ get_or ss i sx = ap (seen_pipe f) read ∙ sym (get_or-map (seen_pipe f) ps i x) in
    let was : IsFit sx =
    subst IsFit (sym at) (All-get_or IsFit ss i sx (omega (arith, l, length-map ps (seen_pipe f))) (h f).fit) in
    let fit : IsFit (seen_pipe f y) = record {
      number = subst IsPipeNumber (sym number) was.number;
      few = omega (arith, was.few, length-map x.slots (seen_slot f), length-map y.slots (seen_slot f), long);
    } in
    subst (λ ss. IsIndexed ss z) (sym (map-set (seen_pipe f) ps i y)) (record {
      leaves = (h f).leaves ∙ sym (map-set leaf_of ss i (seen_pipe f y)
          ∙ ap (set (map leaf_of ss) i) (same f ∙ ap leaf_of at ∙ sym (get_or-map leaf_of ss i sx))
          ∙ set-get_or (map leaf_of ss) i (leaf_of sx));
      fit = All-set IsFit ss i (seen_pipe f y) fit (h f).fit;
    })

-- no pipes yet, and one more
pub indexed-none : (x : Places) → x.leaves ≡ [] → AreIndexed [] x
indexed-none x e = λ f. record { leaves = e; fit = All-nil IsFit }

pub indexed-more : (ps : List KeyedPipe) (i n : ℕ) (w : KeyedPipe) (x z : Places)
    (d : Option Due) → AreIndexed (take i ps) x →
    i < length ps → w ≡ get_or ps i w → ((f : ℕ → Packet) → d ≡ leaf_of (seen_pipe f w)) →
    IsPipeNumber w.number → length w.slots ≤ 256 →
    z ≡ record { leaves = x.leaves ++ d ∷ []; spare = n } →
    AreIndexed (take (i + 1) ps) z
indexed-more ps i n w x z d h l read is number few e = λ f.
    let ss = seen_pipes f (take i ps) in
    let more : seen_pipes f (take (i + 1) ps) ≡ ss ++ seen_pipe f w ∷ [] =
    ap (seen_pipes f) (take_more ps i w l ∙ ap (λ p. take i ps ++ p ∷ []) (sym read))
    ∙ map-append (seen_pipe f) (take i ps) (w ∷ []) in
    let fit : IsFit (seen_pipe f w) =
    record { number = number; few = omega (arith, few, length-map w.slots (seen_slot f)) } in
    subst (λ ss. IsIndexed ss z) (sym more) (record {
      leaves = ap (λ (p : Places). p.leaves) e ∙ (λ t. (h f).leaves t ++ is f t ∷ [])
          ∙ sym (map-append leaf_of ss (seen_pipe f w ∷ []));
      fit = All-push IsFit ss (seen_pipe f w) (h f).fit fit;
    })

-- the least of all
all-leaf : (ss : List PipeState) → least_all (flat_map pipe_dues ss) ≡ least_leaf (map leaf_of ss)
all-leaf [] = refl
all-leaf (s ∷ ss) =
    least_all-append (pipe_dues s) (flat_map pipe_dues ss)
    ∙ (λ t. lesser (sym (least_of-all (pipe_dues s)) t) (all-leaf ss t))

-- the least of a due that may be there and all dues
pub number-least : (ps : List KeyedPipe) (x : Places) (best o r : Option Due) → AreIndexed ps x →
    o ≡ least_of (dues_in x.leaves) → r ≡ lesser best o → (f : ℕ → Packet) →
    r ≡ least_of (option_to_list best ++ flat_map pipe_dues (seen_pipes f ps))
number-least ps x best o r h e is f =
    let all : List Due = flat_map pipe_dues (seen_pipes f ps) in
    let rest : o ≡ least_all all =
    e ∙ least_of-leaf x.leaves ∙ ap least_leaf (h f).leaves ∙ sym (all-leaf (seen_pipes f ps)) in
    is ∙ (λ t. lesser (sym (least_all-option best) t) (rest t)) ∙ sym (least_all-append (option_to_list best) all)
    ∙ sym (least_of-all (option_to_list best ++ all))
