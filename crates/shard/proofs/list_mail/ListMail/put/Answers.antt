use Rattle.std.proofs.Common.{◌≡◌, ◌++◌, [], ◌∷◌, ap, ◌∙◌}
use Rattle.std.proofs.lemmas.List.{map-append}
use Rattle.rtrb.specs.Ring.{sent, received, known_items}
use Rattle.shard.specs.declared.list_mail.Posted.{Posted}
use Rattle.shard.specs.Mails.{MailBook, commands_of, records_of}
use Rattle.shard.proofs.Rings.{ring-grown}
use Rattle.shard.proofs.list_mail.ListMail.put.Goals as goal

pub returns-clause-ok : goal.returns-clause-ok
returns-clause-ok c =
    let m = c.self.inside in
    let last = c.slots_beside-2 in
    let x : Posted = record { timed = c.args.timed } in
    let came : received last.new.self ≡ received m.commands = cc in
    let all : sent last.new.producer ≡ sent m.put ++ x ∷ [] = cc in
    let grown = ring-grown (received m.commands) (received last.new.self) (known_items m.commands) (known_items last.new.self) (sent m.put) (sent last.new.producer) x c.self.invariant.1 last.ensures.fifo came all in
    let more = ap commands_of grown ∙ map-append (λ (p : Posted). p.timed) (known_items m.commands) (x ∷ []) in
    (λ i. record {
      given = commands_of (came i);
      waiting = more i;
      read = records_of (received m.letters);
      unread = records_of (known_items m.letters);
    })
    ∙ ap (λ (b : MailBook). record b { waiting = b.waiting ++ c.args.timed ∷ [] }) c.self.view_is
