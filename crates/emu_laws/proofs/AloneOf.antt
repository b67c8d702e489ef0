-- What a happening at an instance makes of it, and makes known of it, is a function of what stood of it alone; so two
-- histories that are the same at the instance end alike for it.
use Rattle.std.proofs.Common.{◌≡◌, ℕ, List, [], ◌∷◌, ◌++◌, Bool, true, false, refl, sym, ◌∙◌, ap, subst, Option, Some, None}
use Rattle.std.specs.Prelude.{if◌then◌else◌, ◌==◌, map, option_and_then, slice_get}
use Rattle.std.specs.Option.{option_map_or}
use Rattle.std.proofs.lemmas.Bool.{eqb-true, and_parts}
use Rattle.emu_laws.proofs.Types.{Packet, PipeConfig, Record, PacketFinished}
use Rattle.emu_model.specs.Delay.{first_item}
use Rattle.emu_model.specs.Pipes.{PipeState, instance_for, instance_finish, pipe_arrive, pipe_finish, pipe_exit, pipe_configure}
use Rattle.emu_model.specs.Net.{drop_record}
use Rattle.emu_model.specs.Commands.{with_pipe}
use Rattle.emu_model.specs.Events.{flying_in}
use Rattle.emu_laws.specs.Happenings.{Happening, Coming, Finishing, InFlight, Configuring, Deleting, pipe_in, put_in, happen, after_all, Known, nothing, only_lines, finish_lines, deleted_lines, is_number, is_at, Standing, standing, first_held, known_of, history, told_of}
use Rattle.emu_laws.specs.Isolation.{SameEventsSameState, InstancesAreIsolated}
use Rattle.emu_laws.proofs.PlaceOf.{changed-here, mapped-at}
use Rattle.emu_laws.proofs.StandingOf.{entry, at_first, first_or, put-here, none-stands, first-stands, number-found, removed-here, new-here}
use Rattle.emu_laws.proofs.StandingAfter.{arrival, come, finished, one_left, gone, configured, new_or_configured, changed, ChangedOne, changed_one, CameTo, came_to, others_do_not_interfere}

abbrev arrival_lines : ℕ → ℕ → ℕ → ℕ → Packet → Standing → List Record
arrival_lines seed pipe k now packet s = map (drop_record now) (arrival seed pipe k now packet s).dropped

abbrev finished_lines : ℕ → ℕ → ℕ → Standing → List Record
finished_lines now pipe k s =
    option_map_or (λ x. PacketFinished now x.item.number pipe k ∷ []) (option_and_then (λ i. i.service) s.instance) []
    ++ map (drop_record now) (option_map_or (λ i. (instance_finish s.config now i).dropped) s.instance [])

abbrev first_under_way : Standing → Option Packet
first_under_way s = option_and_then (λ i. first_item i.line.in_flight) s.instance

-- what becomes known of an instance alone
abbrev known_alone : ℕ → ℕ → ℕ → Happening → List Standing → Known
known_alone seed pipe k (Coming now j packet) ss = only_lines (first_or (arrival_lines seed pipe k now packet) ss [])
known_alone seed pipe k (Finishing now j i) ss = only_lines (first_or (finished_lines now pipe k) ss [])
known_alone seed pipe k (InFlight j i) ss = record { left = first_or first_under_way ss None; lines = [] }
known_alone seed pipe k (Configuring j config) ss = nothing
known_alone seed pipe k (Deleting now j) ss = only_lines (deleted_lines now (first_held ss))

-- an instance goes as it goes alone
record GoesAlone (seed pipe k : ℕ) (h : Happening) (ps : List PipeState) : Type 0 where
  stands : standing pipe k (happen seed h ps) ≡ changed seed pipe k h (standing pipe k ps)
  known : known_of seed pipe k h ps ≡ known_alone seed pipe k h (standing pipe k ps)

is-some-number : (k : ℕ) (o : Option ℕ) → is_number k o ≡ true → o ≡ Some k
is-some-number k None e = absurd (cc e)
is-some-number k (Some j) e = ap (λ x. Some x) (eqb-true j k e)

module _ (seed pipe k : ℕ) (ps : List PipeState) where
  -- the pipe is found, and put in again
  record Found (f : PipeState → PipeState) (h : Standing → Standing) (p : PipeState) : Type 0 where
    found : pipe_in pipe ps ≡ Some p
    number : (f p).number ≡ p.number
    entry : entry k (f p) ≡ h (entry k p)

  found-stands : (f : PipeState → PipeState) (h : Standing → Standing) (d : List PipeState) (p : PipeState) →
      Found f h p →
      standing pipe k (option_map_or (λ q. put_in pipe (f q) ps) (pipe_in pipe ps) d) ≡ at_first h (standing pipe k ps)
  found-stands f h d p e =
      ap (λ o. standing pipe k (option_map_or (λ q. put_in pipe (f q) ps) o d)) e.found
      ∙ put-here pipe k h p (f p) ps e.found (e.number ∙ number-found pipe p ps e.found) e.entry

  none-alone : (f : PipeState → List PipeState) (h : Standing → Standing) → pipe_in pipe ps ≡ None →
      standing pipe k (option_map_or f (pipe_in pipe ps) ps) ≡ at_first h (standing pipe k ps)
  none-alone f h e =
      ap (λ o. standing pipe k (option_map_or f o ps)) e ∙ none-stands pipe k ps e
      ∙ ap (at_first h) (sym (none-stands pipe k ps e))

  -- what is told of the pipe that is found, or of none
  told-found : {A : Type 0} (f : PipeState → A) (g : Standing → A) (a : A) (p : PipeState) → pipe_in pipe ps ≡ Some p →
      f p ≡ g (entry k p) → option_map_or f (pipe_in pipe ps) a ≡ first_or g (standing pipe k ps) a
  told-found f g a p e same =
      ap (λ o. option_map_or f o a) e ∙ same ∙ sym (first-stands pipe k g a p ps e)

  told-none : {A : Type 0} (f : PipeState → A) (g : Standing → A) (a : A) → pipe_in pipe ps ≡ None →
      option_map_or f (pipe_in pipe ps) a ≡ first_or g (standing pipe k ps) a
  told-none f g a e =
      ap (λ o. option_map_or f o a) e ∙ ap (λ ss. first_or g ss a) (sym (none-stands pipe k ps e))

  by-pipe : {P : Type 0} → (pipe_in pipe ps ≡ None → P) → ((p : PipeState) → pipe_in pipe ps ≡ Some p → P) → P
  by-pipe {P} none some = go (pipe_in pipe ps) refl
    where
      go : (o : Option PipeState) → pipe_in pipe ps ≡ o → P
      go None e = none e
      go (Some p) e = some p e

  comes-alone : (now : ℕ) (packet : Packet) → is_number k (option_map_or (instance_for packet) (pipe_in pipe ps) None) ≡ true →
      GoesAlone seed pipe k (Coming now pipe packet) ps
  comes-alone now packet e =
      by-pipe {P = GoesAlone seed pipe k (Coming now pipe packet) ps}
      (λ none. absurd (no (ap (λ o. is_number k (option_map_or (instance_for packet) o None)) (sym none) ∙ e))) here
    where
      no : false ≡ true → ⊥
      no x = cc x

      here : (p : PipeState) → pipe_in pipe ps ≡ Some p → GoesAlone seed pipe k (Coming now pipe packet) ps
      here p f =
          let at_k : instance_for packet p ≡ Some k =
          is-some-number k (instance_for packet p) (ap (λ o. is_number k (option_map_or (instance_for packet) o None)) (sym f) ∙ e) in
          let came : CameTo seed now k packet p (pipe_arrive seed now packet p) = came_to seed now k packet p at_k in
          let number : p.number ≡ pipe = number-found pipe p ps f in
          record {
            stands = found-stands (λ q. (pipe_arrive seed now packet q).state) (come seed pipe k now packet) ps p
                (record {
                  found = f;
                  number = came.number;
                  entry = came.here ∙ ap (λ j. come seed j k now packet (entry k p)) number;
                });
            known = ap only_lines
                (told-found (λ q. map (drop_record now) (pipe_arrive seed now packet q).dropped)
                (arrival_lines seed pipe k now packet) [] p f
                (ap (map (drop_record now)) (came.dropped
                ∙ ap (λ j. (arrival seed j k now packet (entry k p)).dropped) number)));
          }

  finishes-alone : (now : ℕ) → GoesAlone seed pipe k (Finishing now pipe k) ps
  finishes-alone now =
      by-pipe {P = GoesAlone seed pipe k (Finishing now pipe k) ps}
      (λ none. record {
        stands = none-alone (λ q. put_in pipe (pipe_finish now k q).state ps) (finished now) none;
        known = ap only_lines
            (told-none (λ q. finish_lines now pipe k q ++ map (drop_record now) (pipe_finish now k q).dropped)
            (finished_lines now pipe k) [] none);
      })
      (λ p f.
      let one : ChangedOne k (instance_finish p.config now) p (pipe_finish now k p) =
      changed_one k (instance_finish p.config now) p in
      record {
        stands = found-stands (λ q. (pipe_finish now k q).state) (finished now) ps p
            (record {
              found = f;
              number = one.number;
              entry = ap (λ c. record { config = c; instance = slice_get (pipe_finish now k p).state.instances k }) one.config
                  ∙ ap (λ o. record { config = p.config; instance = o }) one.here;
            });
        known = ap only_lines
            (told-found (λ q. finish_lines now pipe k q ++ map (drop_record now) (pipe_finish now k q).dropped)
            (finished_lines now pipe k) [] p f
            (ap (λ ds. finish_lines now pipe k p ++ map (drop_record now) ds) one.dropped));
      })

  leaves-alone : GoesAlone seed pipe k (InFlight pipe k) ps
  leaves-alone =
      by-pipe {P = GoesAlone seed pipe k (InFlight pipe k) ps}
      (λ none. record {
        stands = none-alone (λ q. put_in pipe (pipe_exit k q) ps) gone none;
        known = ap (λ o. record { left = o; lines = [] }) (told-none (flying_in k) first_under_way None none);
      })
      (λ p f. record {
        stands = found-stands (pipe_exit k) gone ps p
            (record {
              found = f;
              number = refl;
              entry = ap (λ o. record { config = p.config; instance = o }) (changed-here one_left k p.instances);
            });
        known = ap (λ o. record { left = o; lines = [] }) (told-found (flying_in k) first_under_way None p f refl);
      })

  configures-alone : (config : PipeConfig) → GoesAlone seed pipe k (Configuring pipe config) ps
  configures-alone config =
      by-pipe {P = GoesAlone seed pipe k (Configuring pipe config) ps}
      (λ none. record {
        stands =
            ap (λ o. standing pipe k (option_map_or (λ q. put_in pipe (pipe_configure config q) ps) o made)) none
            ∙ new-here pipe k (record { number = pipe; config = config; instances = [] }) ps refl none
            ∙ ap (new_or_configured config) (sym (none-stands pipe k ps none));
        known = refl;
      })
      (λ p f. record {
        stands =
            found-stands (pipe_configure config) (configured config) made p
            (record {
              found = f;
              number = refl;
              entry = ap (λ o. record { config = config; instance = o }) (mapped-at _ p.instances k);
            })
            ∙ some-stands (standing pipe k ps) (first-stands pipe k (λ s. true) false p ps f);
        known = refl;
      })
    where
      made : List PipeState
      made = with_pipe (record { number = pipe; config = config; instances = [] }) ps

      some-stands : (ss : List Standing) → first_or (λ s. true) ss false ≡ true →
          at_first (configured config) ss ≡ new_or_configured config ss
      some-stands [] e = absurd (cc e)
      some-stands (s ∷ ss) e = refl

goes-alone : (seed pipe k : ℕ) (h : Happening) (ps : List PipeState) → is_at pipe k h ps ≡ true → GoesAlone seed pipe k h ps
goes-alone seed pipe k (Coming now j packet) ps e =
    let parts = and_parts (j == pipe) (is_number k (option_map_or (instance_for packet) (pipe_in j ps) None)) e in
    let same : j ≡ pipe = eqb-true j pipe parts.0 in
    subst (λ x. GoesAlone seed pipe k (Coming now x packet) ps) (sym same)
    (comes-alone seed pipe k ps now packet
    (subst (λ x. is_number k (option_map_or (instance_for packet) (pipe_in x ps) None) ≡ true) same parts.1))
goes-alone seed pipe k (Finishing now j i) ps e =
    let parts = and_parts (j == pipe) (i == k) e in
    subst (λ x. GoesAlone seed pipe k (Finishing now x i) ps) (sym (eqb-true j pipe parts.0))
    (subst (λ x. GoesAlone seed pipe k (Finishing now pipe x) ps) (sym (eqb-true i k parts.1))
    (finishes-alone seed pipe k ps now))
goes-alone seed pipe k (InFlight j i) ps e =
    let parts = and_parts (j == pipe) (i == k) e in
    subst (λ x. GoesAlone seed pipe k (InFlight x i) ps) (sym (eqb-true j pipe parts.0))
    (subst (λ x. GoesAlone seed pipe k (InFlight pipe x) ps) (sym (eqb-true i k parts.1))
    (leaves-alone seed pipe k ps))
goes-alone seed pipe k (Configuring j config) ps e =
    subst (λ x. GoesAlone seed pipe k (Configuring x config) ps) (sym (eqb-true j pipe e))
    (configures-alone seed pipe k ps config)
goes-alone seed pipe k (Deleting now j) ps e =
    subst (λ x. GoesAlone seed pipe k (Deleting now x) ps) (sym (eqb-true j pipe e))
    (record { stands = removed-here pipe k ps; known = refl })

pub same_events_same_state : SameEventsSameState
same_events_same_state seed pipe k h ps qs same at_ps at_qs =
    let p : GoesAlone seed pipe k h ps = goes-alone seed pipe k h ps at_ps in
    let q : GoesAlone seed pipe k h qs = goes-alone seed pipe k h qs at_qs in
    record {
      stands = p.stands ∙ ap (changed seed pipe k h) same ∙ sym q.stands;
      known = p.known ∙ ap (known_alone seed pipe k h) same ∙ sym q.known;
    }

-- an instance alone, after its history, and what is told of it
abbrev after_alone : ℕ → ℕ → ℕ → List Happening → List Standing → List Standing
after_alone seed pipe k [] ss = ss
after_alone seed pipe k (h ∷ hs) ss = after_alone seed pipe k hs (changed seed pipe k h ss)

abbrev told_alone : ℕ → ℕ → ℕ → List Happening → List Standing → List Known
told_alone seed pipe k [] ss = []
told_alone seed pipe k (h ∷ hs) ss = known_alone seed pipe k h ss ∷ told_alone seed pipe k hs (changed seed pipe k h ss)

record ByHistory (seed pipe k : ℕ) (hs : List Happening) (ps : List PipeState) : Type 0 where
  stands : standing pipe k (after_all seed hs ps) ≡ after_alone seed pipe k (history seed pipe k hs ps) (standing pipe k ps)
  told : told_of seed pipe k hs ps ≡ told_alone seed pipe k (history seed pipe k hs ps) (standing pipe k ps)

by-history : (seed pipe k : ℕ) (hs : List Happening) (ps : List PipeState) → ByHistory seed pipe k hs ps
by-history seed pipe k [] ps = record { stands = refl; told = refl }
by-history seed pipe k (h ∷ hs) ps = go (is_at pipe k h ps) refl (by-history seed pipe k hs (happen seed h ps))
  where
    next : List PipeState
    next = happen seed h ps

    own : Bool → List Happening
    own b = if b then h ∷ history seed pipe k hs next else history seed pipe k hs next

    tells : Bool → List Known
    tells b = if b then known_of seed pipe k h ps ∷ told_of seed pipe k hs next else told_of seed pipe k hs next

    Goes : Bool → Type 0
    Goes b =
        (standing pipe k (after_all seed hs next) ≡ after_alone seed pipe k (own b) (standing pipe k ps))
        × (tells b ≡ told_alone seed pipe k (own b) (standing pipe k ps))

    of : (b : Bool) → is_at pipe k h ps ≡ b → Goes b → ByHistory seed pipe k (h ∷ hs) ps
    of b e g = record {
      stands = g.0 ∙ ap (λ c. after_alone seed pipe k (own c) (standing pipe k ps)) (sym e);
      told = ap tells e ∙ g.1 ∙ ap (λ c. told_alone seed pipe k (own c) (standing pipe k ps)) (sym e);
    }

    go : (b : Bool) → is_at pipe k h ps ≡ b → ByHistory seed pipe k hs (happen seed h ps) →
        ByHistory seed pipe k (h ∷ hs) ps
    go true e later =
        let one : GoesAlone seed pipe k h ps = goes-alone seed pipe k h ps e in
        of true e (
          later.stands ∙ ap (after_alone seed pipe k (history seed pipe k hs next)) one.stands,
          ap (λ x. x ∷ told_of seed pipe k hs next) one.known
              ∙ ap (λ ys. known_alone seed pipe k h (standing pipe k ps) ∷ ys)
              (later.told ∙ ap (told_alone seed pipe k (history seed pipe k hs next)) one.stands),
        )
    go false e later =
        let still : standing pipe k next ≡ standing pipe k ps = others_do_not_interfere seed pipe k h ps e in
        of false e (
          later.stands ∙ ap (after_alone seed pipe k (history seed pipe k hs next)) still,
          later.told ∙ ap (told_alone seed pipe k (history seed pipe k hs next)) still,
        )

pub instances_are_isolated : InstancesAreIsolated
instances_are_isolated seed pipe k hs js ps qs same own =
    let p : ByHistory seed pipe k hs ps = by-history seed pipe k hs ps in
    let q : ByHistory seed pipe k js qs = by-history seed pipe k js qs in
    record {
      stands = p.stands
          ∙ ap (λ xs. after_alone seed pipe k xs (standing pipe k ps)) own
          ∙ ap (after_alone seed pipe k (history seed pipe k js qs)) same ∙ sym q.stands;
      told = p.told
          ∙ ap (λ xs. told_alone seed pipe k xs (standing pipe k ps)) own
          ∙ ap (told_alone seed pipe k (history seed pipe k js qs)) same ∙ sym q.told;
    }
