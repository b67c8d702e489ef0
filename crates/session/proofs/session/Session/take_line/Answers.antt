use Rattle.std.proofs.Common.{[], refl, sym, ap, subst, append-nil, inl, inr}
use Rattle.std.specs.Prelude.{Some}
use Rattle.control.proofs.InOrder.{says-early}
use Rattle.control_lines.specs.Entries.{IsEntry, Begins, Does, Nothing, view_entry}
use Rattle.session.proofs.SessionFacts.{hears-nothing, heard-begin, heard-command, if_ok}
use Rattle.session.proofs.session.Session.take_line.Goals as goal

pub returns-in-Ok-Nothing-clause-hears : goal.returns-in-Ok-Nothing-clause-hears
returns-in-Ok-Nothing-clause-hears c =
    let is = subst (λ e. IsEntry c.args.line.now (view_entry e)) c.in-Ok-Nothing.field-0-is c.in-Ok-Nothing.ensures in
    λ none. ([], sym (append-nil _), λ plain. hears-nothing c.args.line.now c.args.self.now is)

pub returns-in-Ok-Nothing-clause-fault : goal.returns-in-Ok-Nothing-clause-fault
returns-in-Ok-Nothing-clause-fault c =
    let is = subst (λ e. IsEntry c.args.line.now (view_entry e)) c.in-Ok-Nothing.field-0-is c.in-Ok-Nothing.ensures in
    (inr (Nothing, is, refl), λ some. absurd (cc))

pub returns-in-Ok-Begins-clause-hears : goal.returns-in-Ok-Begins-clause-hears
returns-in-Ok-Begins-clause-hears c =
    let is = subst (λ e. IsEntry c.args.line.now (view_entry e)) c.in-Ok-Begins.field-0-is c.in-Ok-Begins.ensures in
    heard-begin _ c.args.line.now c.in-Ok-Begins.name.now c.in-Ok-Begins.spec c.args.self.now c.take_begin.new.self _ _ c.take_begin.result is c.take_begin.ensures.grows

pub returns-in-Ok-Begins-clause-fault : goal.returns-in-Ok-Begins-clause-fault
returns-in-Ok-Begins-clause-fault c =
    let is = subst (λ e. IsEntry c.args.line.now (view_entry e)) c.in-Ok-Begins.field-0-is c.in-Ok-Begins.ensures in
    if_ok _ _ c.take_begin.result (λ f h. (inr (Begins c.in-Ok-Begins.name.now c.in-Ok-Begins.spec, is, h.0), h.1)) c.take_begin.ensures.fault

pub take_command-requires : goal.take_command-requires
take_command-requires c =
    let is = subst (λ e. IsEntry c.args.line.now (view_entry e)) c.in-Ok-Does.field-0-is c.in-Ok-Does.ensures in
    says-early c.args.line.now _ is.says

pub returns-in-Ok-Does-clause-hears : goal.returns-in-Ok-Does-clause-hears
returns-in-Ok-Does-clause-hears c =
    let is = subst (λ e. IsEntry c.args.line.now (view_entry e)) c.in-Ok-Does.field-0-is c.in-Ok-Does.ensures in
    heard-command _ c.args.line.now _ c.args.self.now c.take_command.new.self _ _ c.take_command.result is c.take_command.ensures.grows

pub returns-in-Ok-Does-clause-fault : goal.returns-in-Ok-Does-clause-fault
returns-in-Ok-Does-clause-fault c =
    let is = subst (λ e. IsEntry c.args.line.now (view_entry e)) c.in-Ok-Does.field-0-is c.in-Ok-Does.ensures in
    if_ok _ _ c.take_command.result (λ f h. (inr (Does _, is, h.0), h.1)) c.take_command.ensures.fault

pub returns-in-Err-clause-fault : goal.returns-in-Err-clause-fault
returns-in-Err-clause-fault c = (inl (c.in-Err.fault, c.in-Err.ensures, ap Some c.cause_of.ensures), λ some. (refl, refl))

pub returns-in-Ok-Nothing-clause-does : goal.returns-in-Ok-Nothing-clause-does
returns-in-Ok-Nothing-clause-does c =
    let is = subst (λ e. IsEntry c.args.line.now (view_entry e)) c.in-Ok-Nothing.field-0-is c.in-Ok-Nothing.ensures in
    λ none. ([], sym (append-nil _), inl (is, refl, refl))

pub returns-in-Ok-Begins-clause-does : goal.returns-in-Ok-Begins-clause-does
returns-in-Ok-Begins-clause-does c =
    let is = subst (λ e. IsEntry c.args.line.now (view_entry e)) c.in-Ok-Begins.field-0-is c.in-Ok-Begins.ensures in
    if_ok _ _ c.take_begin.result
    (λ f h none. let s = h none in (s.0, s.1, inr (s.2.0, s.2.1, s.2.2, s.2.3, s.2.4, (Begins c.in-Ok-Begins.name.now c.in-Ok-Begins.spec, is, s.2.5))))
    c.take_begin.ensures.does

pub returns-in-Ok-Does-clause-does : goal.returns-in-Ok-Does-clause-does
returns-in-Ok-Does-clause-does c =
    let is = subst (λ e. IsEntry c.args.line.now (view_entry e)) c.in-Ok-Does.field-0-is c.in-Ok-Does.ensures in
    if_ok _ _ c.take_command.result
    (λ f h none. let s = h none in (s.0, s.1, inr (s.2.0, s.2.1, s.2.2, s.2.3, s.2.4, (Does _, is, s.2.5))))
    c.take_command.ensures.does
