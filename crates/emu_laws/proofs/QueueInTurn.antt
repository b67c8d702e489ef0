-- What waits in a drop-tail queue, served in turn.
use Rattle.std.proofs.Common.{◌≡◌, ℕ, zero, suc, ◌+◌, List, [], ◌∷◌, length, refl, sym, ◌∙◌, ap, subst, Some}
use Rattle.std.specs.Prelude.{map}
use Rattle.emu_laws.proofs.Types.{Packet, PipeConfig, TailDrop}
use Rattle.emu_model.specs.Moments.{milliseconds}
use Rattle.emu_model.specs.DropTail.{Queued}
use Rattle.emu_model.specs.Delay.{enter}
use Rattle.emu_model.specs.Rate.{follow, finishes}
use Rattle.emu_model.specs.Pipes.{InService, Instance}
use Rattle.emu_laws.specs.QueueTurn.{drained, QueueIsServedInTurn}

sizes : List (Queued Packet) → List ℕ
sizes ws = map (λ w. w.size) ws

-- at rate 0 no finish rests on a sum
unsummed : (start m n : ℕ) (zs : List ℕ) → finishes 0 start m zs ≡ finishes 0 start n zs
unsummed start m n [] = refl
unsummed start m n (z ∷ zs) = ap (λ fs. start ∷ fs) (unsummed start (m + z) (n + z) zs)

module _ (config : PipeConfig) where
  -- the instance with this waiting, and this in service
  with : Instance → List (Queued Packet) → InService Packet → Instance
  with i ws s = record i { waiting = ws; service = Some s }

  tail_drop : ℕ → PipeConfig
  tail_drop bw = record config { bw = bw; discipline = TailDrop }

  in_turn : (bw : ℕ) (ws : List (Queued Packet)) (i : Instance) (s : InService Packet) →
      drained (length ws) (tail_drop bw) (with i ws s) ≡ finishes bw s.period.start s.period.sum (sizes ws)
  unfolding with tail_drop sizes
  in_turn bw [] i s = refl
  in_turn zero (w ∷ ws) i s =
      ap (λ fs. s.period.start ∷ fs)
      (in_turn zero ws (record i { line = enter s.item s.period.finish (milliseconds config.delay) i.line })
      (record { item = w.item; period = follow zero w.size s.period })
      ∙ unsummed s.period.start s.period.sum (s.period.sum + w.size) (map (λ v. v.size) ws))
  in_turn (suc bw) (w ∷ ws) i s =
      ap (λ fs. (follow (suc bw) w.size s.period).finish ∷ fs)
      (in_turn (suc bw) ws (record i { line = enter s.item s.period.finish (milliseconds config.delay) i.line })
      (record { item = w.item; period = follow (suc bw) w.size s.period }))

pub queue_is_served_in_turn : QueueIsServedInTurn
unfolding with tail_drop sizes
queue_is_served_in_turn config i s d e =
    subst (λ x. drained (length i.waiting) (record config { discipline = x }) i
    ≡ finishes config.bw s.period.start s.period.sum (map (λ w. w.size) i.waiting)) (sym d)
    (subst (λ o. drained (length i.waiting) (record config { discipline = TailDrop }) (record i { service = o })
    ≡ finishes config.bw s.period.start s.period.sum (map (λ w. w.size) i.waiting)) (sym e)
    (in_turn config config.bw i.waiting i s))
