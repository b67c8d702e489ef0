-- What one record more does to the counts.
use Rattle.std.proofs.Common.{◌≡◌, ◌≢◌, ℕ, ◌+◌, Bool, true, false, cond, refl, ◌∙◌, List, [], ◌∷◌, ◌++◌, count_by, arith}
use Rattle.std.specs.Prelude.{◌==◌}
use Rattle.std.proofs.lemmas.List.Sums.{fold-append}
use Rattle.emu_model.specs.declared.packets.Load.{Load}
use Rattle.emu_model.specs.declared.records.DropCause.{DropCause}
use Rattle.emu_model.specs.declared.records.DropCause.TheVariants.{Denied, NoPipe, NoInstance, Lost, Full, Codel, Deleted, Budget}
use Rattle.emu_model.specs.declared.records.Record.{Record}
use Rattle.emu_model.specs.declared.records.Record.TheVariants.{CommandDone, CommandRefused, PacketMade, PacketArrived, InstanceIdentified, PacketFinished, PacketDelivered, PacketPassed, PacketDropped, AckTaken, TimerExpired, StepsSpent, RuleLine, PipeLine, InstanceLine}
use Rattle.emu_model.specs.Net.{is_delivery, is_drop_of, drops_of, cause_number}
use Rattle.pipe_table.specs.Log.{all_drops_of, with_drop}

count-push : (p : Record → Bool) (rs : List Record) (r : Record) → count_by p (rs ++ r ∷ []) ≡ count_by p rs + cond (p r) 1 0
count-push p rs r = fold-append (λ a x. a + cond (p x) 1 0) 0 rs (r ∷ [])

module _ (rs : List Record) (moment packet : ℕ) (load : Load) where
  more : (cause c : DropCause) →
      drops_of (rs ++ PacketDropped moment packet load cause ∷ []) c ≡ cond (cause_number cause == cause_number c) (drops_of rs c + 1) (drops_of rs c)
  more cause c = count-push (is_drop_of c) rs (PacketDropped moment packet load cause) ∙ go (cause_number cause == cause_number c) (drops_of rs c)
    where
      go : (b : Bool) (n : ℕ) → n + cond b 1 0 ≡ cond b (n + 1) n
      go true n = refl
      go false n = omega arith

  all : (cause : DropCause) → all_drops_of (rs ++ PacketDropped moment packet load cause ∷ [])
      ≡ cond (cause_number cause == 1) (drops_of rs Denied + 1) (drops_of rs Denied)
      ∷ cond (cause_number cause == 2) (drops_of rs NoPipe + 1) (drops_of rs NoPipe)
      ∷ cond (cause_number cause == 3) (drops_of rs NoInstance + 1) (drops_of rs NoInstance)
      ∷ cond (cause_number cause == 4) (drops_of rs Lost + 1) (drops_of rs Lost)
      ∷ cond (cause_number cause == 5) (drops_of rs Full + 1) (drops_of rs Full)
      ∷ cond (cause_number cause == 6) (drops_of rs Codel + 1) (drops_of rs Codel)
      ∷ cond (cause_number cause == 7) (drops_of rs Deleted + 1) (drops_of rs Deleted)
      ∷ cond (cause_number cause == 8) (drops_of rs Budget + 1) (drops_of rs Budget) ∷ []
  all cause = λ i.
      more cause Denied i ∷ more cause NoPipe i ∷ more cause NoInstance i ∷ more cause Lost i
      ∷ more cause Full i ∷ more cause Codel i ∷ more cause Deleted i ∷ more cause Budget i ∷ []

  pub drop-push : (cause : DropCause) → all_drops_of (rs ++ PacketDropped moment packet load cause ∷ []) ≡ with_drop (all_drops_of rs) cause
  drop-push Denied = all Denied
  drop-push NoPipe = all NoPipe
  drop-push NoInstance = all NoInstance
  drop-push Lost = all Lost
  drop-push Full = all Full
  drop-push Codel = all Codel
  drop-push Deleted = all Deleted
  drop-push Budget = all Budget

pub no-delivery : (r : Record) → ((a b : ℕ) (l : Load) → r ≢ PacketDelivered a b l) → is_delivery r ≡ false
no-delivery (PacketDelivered a b l) h = absurd (h a b l refl)
no-delivery (PacketDropped a b l d) h = refl
no-delivery (CommandDone a b) h = refl
no-delivery (CommandRefused a b c) h = refl
no-delivery (PacketMade a b c d e f g i j) h = refl
no-delivery (PacketArrived a b c d) h = refl
no-delivery (InstanceIdentified a b c d e f g i) h = refl
no-delivery (PacketFinished a b c d) h = refl
no-delivery (PacketPassed a b c d) h = refl
no-delivery (AckTaken a b c d) h = refl
no-delivery (TimerExpired a b c d) h = refl
no-delivery (StepsSpent a) h = refl
no-delivery (RuleLine a b c) h = refl
no-delivery (PipeLine a b) h = refl
no-delivery (InstanceLine a b c d e f g) h = refl

pub no-drop_of : (r : Record) (k : DropCause) → ((a b : ℕ) (l : Load) (d : DropCause) → r ≢ PacketDropped a b l d) → is_drop_of k r ≡ false
no-drop_of (PacketDropped a b l d) k h = absurd (h a b l d refl)
no-drop_of (PacketDelivered a b l) k h = refl
no-drop_of (CommandDone a b) k h = refl
no-drop_of (CommandRefused a b c) k h = refl
no-drop_of (PacketMade a b c d e f g i j) k h = refl
no-drop_of (PacketArrived a b c d) k h = refl
no-drop_of (InstanceIdentified a b c d e f g i) k h = refl
no-drop_of (PacketFinished a b c d) k h = refl
no-drop_of (PacketPassed a b c d) k h = refl
no-drop_of (AckTaken a b c d) k h = refl
no-drop_of (TimerExpired a b c d) k h = refl
no-drop_of (StepsSpent a) k h = refl
no-drop_of (RuleLine a b c) k h = refl
no-drop_of (PipeLine a b) k h = refl
no-drop_of (InstanceLine a b c d e f g) k h = refl
