-- `versioned_data::scan::content_ok` meets its contract.
-- Assumes nothing.
use mathlib.Core.Path.{ap, ◌∙◌}
use native.Mathlib.Omega.{arith}
use Rattle.std.specs.Prelude.{Some}
use Rattle.versioned_data.specs.declared.marks.Form.{Form}
use Rattle.versioned_data.proofs.MarksTold.{form_told}
use Rattle.versioned_data.proofs.ScanSteps.{marks_many, marks_write, marks_none, marks_delta}
use Rattle.versioned_data.proofs.scan.content_ok.Goals as goal

pub returns-in_default : goal.returns-in_default
returns-in_default c =
    let e = form_told _ _ _ c.form.ensures.form c.in_default.is in
    record { content = marks_none _ _ _ (λ h. omega (arith, e, h)) e }

pub returns-then-sign-ne0 : goal.returns-then-sign-ne0
returns-then-sign-ne0 c =
    let e = form_told _ _ _ c.form.ensures.form (c.in-Some.is ∙ ap (λ (f : Form). Some f) c.in-Write.is) in
    record { content = marks_many _ _ _ e (omega (arith, c.sign.ensures.sign, c.if-sign-ne0.true)) }

pub returns-else-sign-ne0 : goal.returns-else-sign-ne0
returns-else-sign-ne0 c =
    let e = form_told _ _ _ c.form.ensures.form (c.in-Some.is ∙ ap (λ (f : Form). Some f) c.in-Write.is) in
    record { content = marks_write _ _ _ e (λ h. omega (arith, h, c.sign.ensures.sign, c.if-sign-ne0.false)) _ c.write_ok.ensures.write }

pub returns-in-Delta : goal.returns-in-Delta
returns-in-Delta c =
    let e = form_told _ _ _ c.form.ensures.form (c.in-Some.is ∙ ap (λ (f : Form). Some f) c.in-Delta.is) in
    record { content = marks_delta _ _ _ (λ h. omega (arith, e, h)) (λ h. omega (arith, e, h)) _ c.delta_ok.ensures.delta }

pub returns-in-DeltaWithShortcut : goal.returns-in-DeltaWithShortcut
returns-in-DeltaWithShortcut c =
    let e = form_told _ _ _ c.form.ensures.form (c.in-Some.is ∙ ap (λ (f : Form). Some f) c.in-DeltaWithShortcut.is) in
    record { content = marks_delta _ _ _ (λ h. omega (arith, e, h)) (λ h. omega (arith, e, h)) _ c.delta_ok-in-DeltaWithShortcut.ensures.delta }
