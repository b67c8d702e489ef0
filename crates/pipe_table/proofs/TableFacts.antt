-- One pipe of the table changes.
use Rattle.std.proofs.Common.{◌≡◌, ℕ, ◌+◌, ◌<◌, Bool, true, cond, refl, sym, ap, ◌∙◌, List, [], ◌∷◌, ◌++◌, Some, None, arith}
use Rattle.std.specs.Prelude.{◌==◌, find, unwrap_or, option_map}
use Rattle.std.proofs.lemmas.List.{map-append}
use Rattle.emu_model.specs.declared.packets.Packet.{Packet}
use Rattle.emu_model.specs.Lists.{replace_first, remove_first}
use Rattle.emu_model.specs.Pipes.{PipeState}
use Rattle.packet_store.specs.Pocket.{Pocket}
use Rattle.pipe_core.specs.Uses.{uses, one_at}
use Rattle.pipe_core.specs.Moves.{some_packet, packet_at, AreNamed, Keeps}
use Rattle.pipe_core.specs.Keyed.{KeyedPipe, seen_pipe, view, keys_of}
use Rattle.pipe_core.specs.Views.{ViewsAgree}
use Rattle.pipe_table.specs.Table.{seen_pipes, pipe_keys, has_number, pipe_of}
use Rattle.pipe_table.proofs.Splits.{find-behind, replace-behind, remove-behind, find-map}
use Rattle.pipe_core.specs.Uses.{total}
use Rattle.pipe_core.proofs.CallerLemmas.{found-le, found-some, Keeps-part, AreNamed-part}
use Rattle.pipe_table.proofs.Sums.{total-pipes, total-split}

abbrev pub shows_number : ℕ → PipeState → Bool
shows_number k p = p.number == k

-- what is shown has the numbers of what is kept
pub seen-find : (f : ℕ → Packet) (k : ℕ) (ps : List KeyedPipe) →
    find (shows_number k) (seen_pipes f ps) ≡ option_map (seen_pipe f) (pipe_of k ps)
seen-find f k ps = find-map (has_number k) (shows_number k) (seen_pipe f) (λ p. refl) ps

module _ (k : ℕ) (before behind : List KeyedPipe) (x : KeyedPipe) (first : pipe_of k before ≡ None) (passes : has_number k x ≡ true) where
  pub found-here : pipe_of k (before ++ x ∷ behind) ≡ Some x
  found-here =
      find-behind (has_number k) before (x ∷ behind) first ∙ ap (λ b. cond b (Some x) (pipe_of k behind)) passes

  seen-first : (f : ℕ → Packet) → find (shows_number k) (seen_pipes f before) ≡ None
  seen-first f = seen-find f k before ∙ ap (option_map (seen_pipe f)) first

  pub seen-replace : (f : ℕ → Packet) (s : PipeState) →
      replace_first (shows_number k) s (seen_pipes f (before ++ x ∷ behind)) ≡ seen_pipes f before ++ s ∷ seen_pipes f behind
  seen-replace f s =
      ap (replace_first (shows_number k) s) (map-append (seen_pipe f) before (x ∷ behind))
      ∙ replace-behind (shows_number k) (seen_pipes f before) (seen_pipes f (x ∷ behind)) s (seen-first f)
      ∙ ap (λ b. seen_pipes f before ++ cond b (s ∷ seen_pipes f behind) (seen_pipe f x ∷ replace_first (shows_number k) s (seen_pipes f behind))) passes

  pub seen-remove : (f : ℕ → Packet) →
      remove_first (shows_number k) (seen_pipes f (before ++ x ∷ behind)) ≡ seen_pipes f before ++ seen_pipes f behind
  seen-remove f =
      ap (remove_first (shows_number k)) (map-append (seen_pipe f) before (x ∷ behind))
      ∙ remove-behind (shows_number k) (seen_pipes f before) (seen_pipes f (x ∷ behind)) (seen-first f)
      ∙ ap (λ b. seen_pipes f before ++ cond b (seen_pipes f behind) (seen_pipe f x ∷ remove_first (shows_number k) (seen_pipes f behind))) passes

beside : List KeyedPipe → List KeyedPipe → (ℕ → ℕ) → ℕ
beside before behind g = total g (pipe_keys before) + total g (pipe_keys behind)

split-beside : (before behind : List KeyedPipe) (x : KeyedPipe) (g : ℕ → ℕ) →
    total g (pipe_keys (before ++ x ∷ behind)) ≡ total g (keys_of x.slots) + beside before behind g
unfolding beside
split-beside before behind x g = omega (arith, total-split g before x behind)

pub Keeps-lift : (p q : Pocket) (before behind : List KeyedPipe) (x y : KeyedPipe) → Keeps p q (keys_of x.slots) (keys_of y.slots) →
    Keeps p q (pipe_keys (before ++ x ∷ behind)) (pipe_keys (before ++ y ∷ behind))
Keeps-lift p q before behind x y =
    Keeps-part p q (keys_of x.slots) (keys_of y.slots) (pipe_keys (before ++ x ∷ behind)) (pipe_keys (before ++ y ∷ behind))
    (beside before behind) (split-beside before behind x) (split-beside before behind y)

pub AreNamed-at : (p : Pocket) (before behind : List KeyedPipe) (x : KeyedPipe) →
    AreNamed p (pipe_keys (before ++ x ∷ behind)) → AreNamed p (keys_of x.slots)
AreNamed-at p before behind x =
    AreNamed-part p (keys_of x.slots) (pipe_keys (before ++ x ∷ behind)) (beside before behind) (split-beside before behind x)

-- names that agree on the keys of pipes show them alike
pub seen-agree : ViewsAgree → (f g : ℕ → Packet) (ps : List KeyedPipe) → ((k : ℕ) → 0 < uses k (pipe_keys ps) → g k ≡ f k) →
    seen_pipes g ps ≡ seen_pipes f ps
seen-agree agree f g [] same = refl
seen-agree agree f g (p ∷ ps) same = λ i.
    agree f g p (λ k within. same k (omega (arith, within, total-pipes (one_at k) p ps))) i
    ∷ seen-agree agree f g ps (λ k within. same k (omega (arith, within, total-pipes (one_at k) p ps))) i

-- the pipes but the one that changed are shown as before
module _ (agree : ViewsAgree) (p q : Pocket) (before behind : List KeyedPipe) (x y : KeyedPipe)
    (named : AreNamed p (pipe_keys (before ++ x ∷ behind))) (keeps : Keeps p q (keys_of x.slots) (keys_of y.slots)) where
  same-name : (k : ℕ) → 0 < uses k (pipe_keys before) + uses k (pipe_keys behind) → packet_at q.find k ≡ packet_at p.find k
  same-name k within =
      ap (λ o. unwrap_or o some_packet)
      (keeps.kept k
      (omega (arith, within, named.each k, total-split (one_at k) before x behind, found-le (p.find k)))
      (found-some (p.find k) (omega (arith, within, named.each k, total-split (one_at k) before x behind))))

  pub seen-before : seen_pipes (packet_at q.find) before ≡ seen_pipes (packet_at p.find) before
  seen-before = seen-agree agree (packet_at p.find) (packet_at q.find) before (λ k within. same-name k (omega (arith, within)))

  pub seen-behind : seen_pipes (packet_at q.find) behind ≡ seen_pipes (packet_at p.find) behind
  seen-behind = seen-agree agree (packet_at p.find) (packet_at q.find) behind (λ k within. same-name k (omega (arith, within)))

  -- what is shown then is what was shown before with the changed pipe in place of its first
  pub shown-changed : (k : ℕ) → pipe_of k before ≡ None → has_number k x ≡ true →
      seen_pipes (packet_at q.find) (before ++ y ∷ behind)
      ≡ replace_first (shows_number k) (view q y) (seen_pipes (packet_at p.find) (before ++ x ∷ behind))
  shown-changed k first passes =
      map-append (seen_pipe (packet_at q.find)) before (y ∷ behind)
      ∙ (λ i. seen-before i ++ view q y ∷ seen-behind i)
      ∙ sym (seen-replace k before behind x first passes (packet_at p.find) (view q y))
