use Rattle.std.proofs.Common.{◌≡◌, ℕ, ◌<◌, ◌+◌, length, set, Some, None, sym, ap, ◌∙◌, subst, arith}
use Rattle.std.proofs.lemmas.List.{get_or_read, set-get_or}
use Rattle.shard.specs.Seats.{resident_at, HasBegun}
use Rattle.shard.proofs.SlotChanges.{read_at, seated_at}
use Rattle.shard.proofs.RestartFacts.{begun_none, begun_vacant, begun_more}
use Rattle.shard.proofs.shard.begin_all_anew.Goals as goal

pub loop-slot-init : goal.loop-slot-init
loop-slot-init g c =
    (λ pockets clock s. begun_none g.M.Mail.seen pockets clock c.args.slots.now.items (g.A.Agenda.entries c.args.agenda.now) s, c.requires.start)

pub index_mut-requires : goal.index_mut-requires
index_mut-requires g c =
    let w = c.requires.was in
    let b = c.loop-slot.invariant.0 w.0 w.1 w.2 in
    omega (arith, b.shard.long)

pub begin_anew-requires-clause-was : goal.begin_anew-requires-clause-was
begin_anew-requires-clause-was g c =
    let w = c.requires.was in
    let b = c.loop-slot.invariant.0 w.0 w.1 w.2 in
    let slots = c.loop-slot.slots.items in
    let r = c.in-Some.resident in
    let within : c.loop-slot.slot < length slots = omega (arith, b.shard.long) in
    let is : resident_at slots c.loop-slot.slot ≡ Some r = read_at slots c.loop-slot.slot c.index_mut.result.now r within c.index_mut.ensures.value (sym c.in-Some.is) in
    (w.0 r.owner, w.1, seated_at g.M.Mail.seen w.0 (g.A.Agenda.entries c.loop-slot.agenda) w.1 slots c.loop-slot.slot r b.shard is)

pub loop-slot-preserved : goal.loop-slot-preserved
loop-slot-preserved g c =
    let slots = c.loop-slot.slots.items in
    let n : ℕ = c.loop-slot.slot in
    let r = c.in-Some.resident in
    let e = c.begin_anew.ensures in (
      λ pockets clock s.
          let b = c.loop-slot.invariant.0 pockets clock s in
          let within : n < length slots = omega (arith, b.shard.long) in
          begun_more g.M.Mail.seen pockets clock c.args.slots.now.items (g.A.Agenda.entries c.loop-slot.agenda) (g.A.Agenda.entries c.begin_anew.new.agenda) slots n b r c.begin_anew.new.self
          (record {
            is = read_at slots n c.index_mut.result.now r within c.index_mut.ensures.value (sym c.in-Some.is);
            within = omega (arith, within, b.shard.long);
            same = e.same;
            seated = e.seated;
            kept = e.kept;
            others = e.others;
          }),
      e.time,
    )

pub loop-slot-preserved-in_default : goal.loop-slot-preserved-in_default
loop-slot-preserved-in_default g c =
    let slots = c.loop-slot.slots.items in
    let n : ℕ = c.loop-slot.slot in (
      λ pockets clock s.
          let b = c.loop-slot.invariant.0 pockets clock s in
          let within : n < length slots = omega (arith, b.shard.long) in
          let same : set slots n c.index_mut.result.now ≡ slots = ap (set slots n) c.index_mut.ensures.value ∙ set-get_or slots n c.index_mut.result.now in
          let none : resident_at slots n ≡ None = sym (sym c.in_default.is ∙ get_or_read slots n c.index_mut.result.now within c.index_mut.ensures.value None) in
          subst (λ l. HasBegun g.M.Mail.seen pockets (g.A.Agenda.entries c.loop-slot.agenda) clock c.args.slots.now.items l (n + 1)) (sym same)
          (begun_vacant g.M.Mail.seen pockets clock c.args.slots.now.items (g.A.Agenda.entries c.loop-slot.agenda) slots n b none),
      c.loop-slot.invariant.1,
    )

pub returns-clause-begun : goal.returns-clause-begun
returns-clause-begun g c pockets clock s =
    let b = c.loop-slot.invariant.0 pockets clock s in
    record { shard = b.shard; stands = b.stands; offsets = λ k x l h. b.offsets k x (omega (arith, l)) h; kept = b.kept }
