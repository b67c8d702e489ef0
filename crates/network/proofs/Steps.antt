-- How changes follow one another.
use Rattle.std.proofs.Common.{◌≡◌, ℕ, ◌+◌, ◌≤◌, refl, sym, ap, ◌∙◌, subst, List, [], ◌++◌, length, arith}
use Rattle.std.proofs.lemmas.List.{append-nil}
use Rattle.emu_model.specs.declared.records.Record.{Record}
use Rattle.emu_model.specs.declared.commands.Command.{Command}
use Rattle.emu_model.specs.declared.commands.EventContext.{EventContext}
use Rattle.emu_model.specs.Net.{Net, note_all}
use Rattle.packet_store.specs.Pocket.{Pocket}
use Rattle.pipe_core.specs.Uses.{uses}
use Rattle.pipe_core.specs.Moves.{Keeps}
use Rattle.pipe_table.specs.Table.{Table, with_pipes, pipe_keys}
use Rattle.network.specs.Kept.{KeptNet, net_of, line_keys, net_keys, IsHoused, Stands}
use Rattle.network.specs.Changes.{Becomes, IsStill, Notes, Turns, Obeys}
use Rattle.network.proofs.Frame.{pipes-housed, pipes-shown}

-- a fact of the view, and a change from it
pub at_view : (P : KeptNet → Type 0) (n old : KeptNet) → n ≡ old → P old → P n
at_view P n old e h = subst P (sym e) h

pub from_view : (c : ℕ) (m : KeptNet → Net) (p q : Pocket) (n old new : KeptNet) → n ≡ old → Becomes c (m n) p q n new → Becomes c (m old) p q old new
from_view c m p q n old new e b = subst (λ o. Becomes c (m o) p q o new) e b

pub turns_view : (f : Net → Net) (n old new : KeptNet) → n ≡ old → Turns f n new → Turns f old new
turns_view f n old new e t = subst (λ o. Turns f o new) e t

pub still_view : (n old new : KeptNet) → n ≡ old → IsStill n new → IsStill old new
still_view n old new e s = subst (λ o. IsStill o new) e s

pub obeys_view : (at : EventContext) (k : ℕ) (c : Command) (n old new : KeptNet) → n ≡ old → Obeys at k c n new → Obeys at k c old new
obeys_view at k c n old new e o = subst (λ m. Obeys at k c m new) e o

pub still-housed : (p : Pocket) (old new : KeptNet) → IsHoused p old → IsStill old new → IsHoused p new
still-housed p old new h s =
    let keys : net_keys new ≡ net_keys old = λ i. line_keys (s.line i) ++ s.keys i in
    record {
      each = λ k. ap (uses k) keys ∙ h.each k;
      count = h.count ∙ ap (λ ks. length ks) (sym keys);
    }

pub still-refl : (n : KeptNet) → IsStill n n
still-refl n = record { shown = λ p. refl; line = refl; keys = refl; seed = refl }

pub still-then : (a b c : KeptNet) → IsStill a b → IsStill b c → IsStill a c
still-then a b c s t = record {
  shown = λ p. t.shown p ∙ s.shown p;
  line = t.line ∙ s.line;
  keys = t.keys ∙ s.keys;
  seed = t.seed ∙ s.seed;
}

pub still-becomes : (p : Pocket) (old new : KeptNet) → IsHoused p old → IsStill old new → Becomes 0 (net_of p old) p p old new
still-becomes p old new h s = record {
  shown = s.shown p;
  housed = still-housed p old new h s;
  budget = refl;
  seed = s.seed;
  made = omega (arith, ap (λ (n : Net). n.made) (s.shown p));
}

pub notes-shown : (p : Pocket) (rs : List Record) (old new : KeptNet) → Notes rs old new → net_of p new ≡ note_all rs (net_of p old)
notes-shown p rs old new n = ap (net_of p) n.rest ∙ (λ i. record (net_of p old) { records = n.records i })

pub notes-becomes : (p : Pocket) (rs : List Record) (old new : KeptNet) → IsHoused p old → Notes rs old new → Becomes 0 (note_all rs (net_of p old)) p p old new
notes-becomes p rs old new h n = record {
  shown = notes-shown p rs old new n;
  housed = subst (λ m. IsHoused p m) (sym n.rest) (record { each = h.each; count = h.count });
  budget = refl;
  seed = ap (λ (m : KeptNet). m.table.seed) n.rest;
  made = omega (arith, ap (λ (m : KeptNet). m.made) n.rest);
}

-- one change, and then another
pub follow : (f : Net → Net) (c d k : ℕ) (m : Net) (p q r : Pocket) (x y z : KeptNet) → c + d ≤ k →
    Becomes c m p q x y → Becomes d (f (net_of q y)) q r y z → Becomes k (f m) p r x z
follow f c d k m p q r x y z le a b = record {
  shown = b.shown ∙ ap f a.shown;
  housed = b.housed;
  budget = b.budget ∙ a.budget;
  seed = b.seed ∙ a.seed;
  made = omega (arith, a.made, b.made, le);
}

pub shown-as : (c : ℕ) (m n : Net) (p q : Pocket) (x y : KeptNet) → m ≡ n → Becomes c m p q x y → Becomes c n p q x y
shown-as c m n p q x y e b = subst (λ o. Becomes c o p q x y) e b

pub stands-after : (at : EventContext) (c : ℕ) (m : Net) (p q : Pocket) (old new : KeptNet) → Stands at p old → Becomes c m p q old new → Stands at q new
stands-after at c m p q old new s b = record {
  early = s.early;
  seed = s.seed ∙ sym b.seed;
  room = omega (arith, s.room, b.budget);
  housed = b.housed;
}

-- nothing was noted
pub noted-none : (n : Net) → note_all [] n ≡ n
noted-none n = λ i. record n { records = append-nil n.records i }

-- the pipes changed
pub pipes-become : (p q : Pocket) (n : KeptNet) (t : Table) → IsHoused p n → Keeps p q (pipe_keys n.table.pipes) (pipe_keys t.pipes) →
    t.seed ≡ n.table.seed → Becomes 0 (with_pipes q t (net_of p n)) p q n (record n { table = t })
pipes-become p q n t h keeps seed = record {
  shown = sym (pipes-shown p q n t h keeps);
  housed = pipes-housed p q n t h keeps;
  budget = keeps.budget;
  seed = seed;
  made = omega arith;
}

-- it changed within itself
pub turns-becomes : (f : Net → Net) (p : Pocket) (old new : KeptNet) → IsHoused p old → Turns f old new → Becomes 0 (f (net_of p old)) p p old new
turns-becomes f p old new h t =
    let keys : net_keys new ≡ net_keys old = λ i. t.line i ++ t.keys i in
    record {
      shown = t.shown p;
      housed = record {
        each = λ k. ap (uses k) keys ∙ h.each k;
        count = h.count ∙ ap (λ ks. length ks) (sym keys);
      };
      budget = refl;
      seed = t.seed;
      made = omega (arith, t.made);
    }

-- the same from another beginning
pub rebase : (c : ℕ) (m : Net) (p q : Pocket) (x y z : KeptNet) → x.table.seed ≡ y.table.seed → x.made ≡ y.made → Becomes c m p q x z → Becomes c m p q y z
rebase c m p q x y z seed made b = record {
  shown = b.shown;
  housed = b.housed;
  budget = b.budget;
  seed = b.seed ∙ seed;
  made = omega (arith, b.made, made);
}

pub notes-nil : (x : KeptNet) → Notes [] x x
notes-nil x = record { rest = refl; records = sym (append-nil x.log.records); room = omega arith }
