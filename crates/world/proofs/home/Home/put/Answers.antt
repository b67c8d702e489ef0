use Rattle.std.proofs.Common.{◌≡◌, ℕ, ◌≤◌, ◌<◌, [], length, set, refl, sym, ◌∙◌, arith, subst}
use Rattle.std.proofs.lemmas.List.{get_or_read}
use Rattle.shard.specs.Mails.{MailBook}
use Rattle.shard.specs.Stand.{Seating}
use Rattle.world.specs.declared.home.Home.TheVariants.{Seated}
use Rattle.world.specs.Places.{shard_at}
use Rattle.shard.specs.Posts.{ChangedMail, with_command}
use Rattle.world.specs.Steps.{Mailed, Puts}
use Rattle.world.proofs.Lists.{set_same}
use Rattle.world.proofs.Sitting.{nobody_past}
use Rattle.world.proofs.ReadFacts.{no_life, not_put}
use Rattle.world.proofs.home.Home.put.Goals as goal

pub returns-then-shard-len-clause-no : goal.returns-then-shard-len-clause-no
returns-then-shard-len-clause-no g c = λ f.
    let shards = c.args.shards.now in
    let i : ℕ = c.in-Seated.shard in
    let slot : ℕ = c.in-Seated.slot in
    let past : length shards.items ≤ i = omega (arith, c.if-shard-len.true, c.len.ensures, shards.ok.0) in
    (sym c.in-Seated.is, refl, λ life e. absurd (no_life shards.items c.args.self.now i slot life c.in-Seated.is (nobody_past shards.items i slot past) e))

pub returns-in_default-put-clause-no : goal.returns-in_default-put-clause-no
returns-in_default-put-clause-no g c = λ f.
    let shards = c.args.shards.now in
    let i : ℕ = c.in-Seated.shard in
    let slot : ℕ = c.in-Seated.slot in
    let within : i < length shards.items = omega (arith, c.if-shard-len.false, c.len.ensures, shards.ok.0) in
    let read : c.index_mut.result.now ≡ shard_at shards.items i = get_or_read shards.items i c.index_mut.result.now within c.index_mut.ensures.value (record { seats = []; clock = 0 }) in
    let h = c.in_default-put.ensures in
    (sym c.in-Seated.is, set_same shards.items i c.put-in-Seated.new.self (record { seats = []; clock = 0 }) (h.err ∙ read), not_put shards.items c.args.self.now i slot c.index_mut.result.now c.args.timed c.in_default-put.field-0 c.in-Seated.is read h.back)

pub returns-in-Seated-clause-yes : goal.returns-in-Seated-clause-yes
returns-in-Seated-clause-yes g c = λ f.
    let shards = c.args.shards.now in
    let i : ℕ = c.in-Seated.shard in
    let slot : ℕ = c.in-Seated.slot in
    let within : i < length shards.items = omega (arith, c.if-shard-len.false, c.len.ensures, shards.ok.0) in
    let read : c.index_mut.result.now ≡ shard_at shards.items i = get_or_read shards.items i c.index_mut.result.now within c.index_mut.ensures.value (record { seats = []; clock = 0 }) in
    let h = c.in-Ok-put.ensures.ok in
    let sh : Seating MailBook = c.put-in-Seated.new.self in
    let mail : MailBook = with_command h.0.stand.mail c.args.timed in
    let changed : ChangedMail (shard_at shards.items i) sh slot h.0 mail = subst (λ x. ChangedMail x sh slot h.0 mail) read h.2 in
    subst (λ home. Mailed (Puts c.args.timed) home shards.items (Seated i slot) (set shards.items i sh)) (sym c.in-Seated.is) (mail, h.0, sh, (h.1, refl), changed, refl, refl)
