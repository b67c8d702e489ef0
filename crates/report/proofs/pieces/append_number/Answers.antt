use Rattle.std.proofs.Common.{sym, ap, ◌∙◌, ◌++◌, arith}
use Rattle.std.proofs.lemmas.Fmt.{decimal_digit}
use Rattle.report.proofs.pieces.append_number.Goals as goal

pub returns-then-number-lt10 : goal.returns-then-number-lt10
returns-then-number-lt10 c =
    record {
      items =
          c.append.ensures.items
          ∙ ap (λ l. c.args.out.now.items ++ l) (sym (decimal_digit c.args.number c.if-number-lt10.true));
      room = omega arith;
      capacity = omega arith;
    }
