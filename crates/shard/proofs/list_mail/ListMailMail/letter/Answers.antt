use Rattle.std.proofs.Common.{◌≡◌, ◌==◌, length, ◌++◌, [], ◌∷◌, ap, sym, ◌∙◌}
use Rattle.std.proofs.lemmas.List.{map-append, append_assoc}
use Rattle.rtrb.specs.Ring.{sent, received, known_items}
use Rattle.shard.specs.declared.list_mail.News.{News}
use Rattle.shard.specs.Mails.{MailBook, letters_of, posted_of, records_of}
use Rattle.shard.proofs.Rings.{ring-grown}
use Rattle.shard.proofs.list_mail.ListMailMail.letter.Goals as goal

pub returns-clause-ok : goal.returns-clause-ok
returns-clause-ok c =
    let m = c.self.inside in
    let last = c.slots_beside-2 in
    let x : News = record { record_of = c.args.news } in
    let came : received last.new.self ≡ received m.letters = cc in
    let all : sent last.new.producer ≡ sent m.news ++ x ∷ [] = cc in
    let grown = ring-grown (received m.letters) (received last.new.self) (known_items m.letters) (known_items last.new.self) (sent m.news) (sent last.new.producer) x c.self.invariant.4 last.ensures.fifo came all in
    let more = ap records_of grown ∙ map-append (λ (n : News). n.record_of) (known_items m.letters) (x ∷ []) in
    let letters : records_of (received last.new.self) ++ records_of (known_items last.new.self) ≡ letters_of c.args.self.now ++ c.args.news ∷ [] =
    (λ i. records_of (came i) ++ more i)
    ∙ sym (append_assoc (records_of (received m.letters)) (records_of (known_items m.letters)) (c.args.news ∷ []))
    ∙ ap (λ (b : MailBook). letters_of b ++ c.args.news ∷ []) c.self.view_is in
    let read : records_of (received last.new.self) ≡ c.args.self.now.read = ap records_of came ∙ ap (λ (b : MailBook). b.read) c.self.view_is in λ i. record {
      given = (c.self.view_is i).given;
      letters = letters i;
      posted = posted_of (c.self.view_is i);
      read = read i;
      dry = length (c.self.view_is i).waiting == 0;
      full = length (records_of (known_items last.new.self)) == 64;
    }
