-- Why a packet is dropped as it comes to a pipe.
use Rattle.std.proofs.Common.{slice_get, Some, ◌≡◌, ℕ, zero, suc, ◌+◌, ◌*◌, ◌^◌, ◌<◌, List, [], ◌∷◌, ◌++◌, length, true, false, refl, subst, arith}
use Rattle.std.specs.List.{AllByRecursion}
use Rattle.std.proofs.lemmas.Bool.{ltb-true, ltb-false, leb-false}
use Rattle.std.proofs.lemmas.List.{length-append}
use Rattle.emu_laws.proofs.Types.{Packet, QueueLimit, Slots, KBytes, PipeConfig, DropCause, Lost, Full, Codel}
use Rattle.emu_model.specs.FlowIds.{flow_id}
use Rattle.emu_model.specs.Loss.{loss_word, is_below_rate}
use Rattle.emu_model.specs.DropTail.{Queued, bytes_of, accepts}
use Rattle.emu_model.specs.Pipes.{PipeState, instance_for, with_instance, Instance, Drop, codel_drops, dequeue, serve_next, enqueue, drawn_one, draw}
use Rattle.emu_model.specs.ComponentLaws.{IsWithin}
use Rattle.emu_laws.proofs.EachOf.{each_weaker}
use Rattle.emu_laws.proofs.PipeDrops.{instance_arrive-drops, pipe_arrive-drops, met}
use Rattle.emu_laws.proofs.QueuesKept.{bytes-append, bytes-one}
use Rattle.emu_laws.specs.LossCauses.{waiting_in, drawn_in, IsOverLimit, FullAtLimit, IsBelowLossRate, LostBelowRate}

-- what isn't accepted would be over the limit
over : (limit : QueueLimit) (ws : List (Queued Packet)) (w : Queued Packet) → accepts limit ws w.size ≡ false →
    IsWithin limit (ws ++ w ∷ []) → ⊥
over (Slots n) ws w e h = omega (arith, h, ltb-false (length ws) n e, length-append ws (w ∷ []))
over (KBytes n) ws w e h =
    omega (arith, h, leb-false (bytes_of ws + w.size) (1024 * n) e, bytes-append ws (w ∷ []), bytes-one w)

-- what the server passes over is dropped by CoDel
passed-over : (config : PipeConfig) (now : ℕ) (i : Instance) →
    AllByRecursion (λ d. d.cause ≡ Codel) (serve_next config now i).dropped
passed-over config now i = go (dequeue config.discipline now i.control i.waiting).dropped
  where
    go : (ws : List (Queued Packet)) → AllByRecursion (λ d. d.cause ≡ Codel) (codel_drops ws)
    go [] = tt
    go (w ∷ ws) = (refl, go ws)

none-is : (cause : DropCause) → cause ≡ Codel → cause ≡ Full → ⊥
none-is Full e g = cc e
none-is _ e g = cc g

-- a packet that an instance of a pipe doesn't accept
pub at_limit : (now : ℕ) (packet : Packet) (p : PipeState) (k : ℕ) (i : Instance) → instance_for packet p ≡ Some k →
    slice_get (with_instance (flow_id p.config.mask packet) k p).instances k ≡ Some i →
    accepts p.config.queue i.waiting packet.size ≡ false → IsOverLimit now packet p
at_limit now packet p k i there e refused = record {
  instance = k;
  there = there;
  over = over p.config.queue (waiting_in k p) (record { item = packet; size = packet.size; stamp = now })
      (subst (λ ws. accepts p.config.queue ws packet.size ≡ false)
      (met (λ j. j.waiting) [] (flow_id p.config.mask packet) k p i e refl) refused);
}

pub full_at_limit : FullAtLimit
full_at_limit seed now packet p =
    pipe_arrive-drops Is seed now packet p (λ none e. absurd (cc e))
    (λ k i there e. instance_arrive-drops Is p.config now packet (draw seed p k i) (drawn_one i) (λ h g. absurd (cc g))
    (λ refused g. (refl, at_limit now packet p k i there e refused))
    (λ idle. each_weaker (λ d. d.cause ≡ Codel) Is (λ d g h. absurd (none-is d.cause g h))
    (serve_next p.config now (enqueue now packet (drawn_one i))).dropped
    (passed-over p.config now (enqueue now packet (drawn_one i)))))
  where
    Is : Drop → Type 0
    Is d = d.cause ≡ Full → (d.packet ≡ packet) × IsOverLimit now packet p

none-lost : (cause : DropCause) → cause ≡ Codel → cause ≡ Lost → ⊥
none-lost Lost e g = cc e
none-lost _ e g = cc g

below : (plr word : ℕ) → is_below_rate plr word ≡ true → word * 10 ^ 6 < plr * 2 ^ 32
below zero word e = absurd (cc e)
below (suc plr) word e = ltb-true (word * 10 ^ 6) (suc plr * 2 ^ 32) e

-- a packet whose loss word says that it is lost
pub below_rate : (seed : ℕ) (packet : Packet) (p : PipeState) (k : ℕ) (i : Instance) → instance_for packet p ≡ Some k →
    slice_get (with_instance (flow_id p.config.mask packet) k p).instances k ≡ Some i → draw seed p k i ≡ true →
    IsBelowLossRate seed packet p
below_rate seed packet p k i there e lost = record {
  instance = k;
  there = there;
  below = below p.config.plr (loss_word seed p.number k (drawn_in k p))
      (subst (λ m. is_below_rate p.config.plr (loss_word seed p.number k m) ≡ true)
      (met (λ j. j.drawn) 0 (flow_id p.config.mask packet) k p i e refl) lost);
}

pub lost_below_rate : LostBelowRate
lost_below_rate seed now packet p =
    pipe_arrive-drops Is seed now packet p (λ none e. absurd (cc e))
    (λ k i there e. instance_arrive-drops Is p.config now packet (draw seed p k i) (drawn_one i)
    (λ h g. (refl, below_rate seed packet p k i there e h))
    (λ refused g. absurd (cc g))
    (λ idle. each_weaker (λ d. d.cause ≡ Codel) Is (λ d g h. absurd (none-lost d.cause g h))
    (serve_next p.config now (enqueue now packet (drawn_one i))).dropped
    (passed-over p.config now (enqueue now packet (drawn_one i)))))
  where
    Is : Drop → Type 0
    Is d = d.cause ≡ Lost → (d.packet ≡ packet) × IsBelowLossRate seed packet p
