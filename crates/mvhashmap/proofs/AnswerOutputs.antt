-- Nothing is lost between what a read finds and the answer's words: the code's enums answer what the rules answer.
-- Assumes nothing.
use mathlib.Core.Path.{◌≡◌, refl, ap}
use mathlib.Core.Bool.{Bool, true, false, cond, ◌||◌}
use mathlib.Core.List.{List, []}
use mathlib.Core.Option.{Option, none, some}
use Prim.Native.Nat.{ℕ}
use native.Mathlib.Omega.{arith}
use lib.Dec.{eqb}
use borrow.Author.Tests.{eqb-true}
use Rattle.std.specs.Prelude.{Err}
use Rattle.lists.proofs.Bools.{and_three}
use Rattle.number.proofs.Halves.{value_of_number_of}
use Rattle.number.specs.Words.{digits}
use Rattle.delta.specs.Delta.{Delta, delta_words}
use Rattle.delta.proofs.RecordLaws.{exact_op_of}
use Rattle.types.specs.Response.{response, resolved_kind, unresolved_kind, uninitialized_kind}
use Rattle.types.specs.ValueWithLayout.{words_of, value_from}
use Rattle.types.proofs.ValueLaws.{words_value}
use Rattle.types.specs.declared.output.MVGroupOutput.TheVariants.{Uninitialized}
use Rattle.model.specs.Data.{refuse, accept, Read, versioned, resolved, unresolved, uninitialized, dependency, application_failure, refusal, versioned_answer, read_ruling}
use Rattle.model.specs.Group.{Latest, latest_answer, dependency_answer, Size, counted, waits, size_answer}
use Rattle.model.specs.Fine.{is_word, fine_value, fine_read, fine_latest}
use Rattle.model.proofs.FineParts.{value_length, value_words_lem}
use Rattle.versioned_data.specs.Output.{refusal_output, output_of}
use Rattle.versioned_group_data.specs.Output.{latest_output, size_output}
use Rattle.mvhashmap.specs.Answer.{output_answer, output_ruling, group_output_answer, group_output_ruling}

fine_words : (v : List ℕ) → fine_value v ≡ true → words_of (value_from v) ≡ v
fine_words v f = words_value v (value_words_lem v f) (value_length v f)

-- A read refuses by 9 or by 10.
refusal_kept : (n : ℕ) → (eqb n 9 || eqb n 10) ≡ true → output_ruling (Err (refusal_output n)) ≡ refuse n
unfolding refusal_output output_ruling output_answer
refusal_kept n f = go (eqb n 9) refl (eqb n 10) refl
  where
    go : (a : Bool) → eqb n 9 ≡ a → (b : Bool) → eqb n 10 ≡ b → output_ruling (Err (refusal_output n)) ≡ refuse n
    go true e b h = rw (eqb-true n 9 e) refl
    go false e true h = rw (eqb-true n 10 h) refl
    go false e false h = absurd (let z : ◌≡◌ {A = ℕ} 0 1 = cc in omega arith)

pub output_kept : (r : Read) → fine_read r ≡ true → output_ruling (output_of r) ≡ read_ruling tt r
unfolding output_of output_ruling output_answer read_ruling fine_read
output_kept (versioned place incarnation v) f =
    ap (λ (w : List ℕ). accept (versioned_answer place incarnation w) tt)
    (fine_words v (and_three (is_word place) (is_word incarnation) (fine_value v) f).2)
output_kept (resolved n) f = ap (λ (k : ℕ). accept (response resolved_kind (digits 4 k)) tt) (value_of_number_of n)
output_kept (unresolved d) f = ap (λ (e : Delta). accept (response unresolved_kind (delta_words e)) tt) (exact_op_of d)
output_kept uninitialized f = refl
output_kept (dependency index) f = refl
output_kept application_failure f = refl
output_kept (refusal n) f = refusal_kept n f

pub latest_kept : (based : Bool) (o : Option Latest) → fine_latest o ≡ true → group_output_ruling (latest_output based o) ≡ accept (latest_answer based o) tt
unfolding latest_output latest_answer group_output_ruling group_output_answer fine_latest dependency_answer
latest_kept true none f = refl
latest_kept false none f = refl
latest_kept based (some l) f = go l.estimate refl
  where
    value : words_of (value_from l.value) ≡ l.value
    value = fine_words l.value (and_three (is_word l.place) (is_word l.incarnation) (fine_value l.value) f).2

    go : (b : Bool) → l.estimate ≡ b → group_output_ruling (latest_output based (some l)) ≡ accept (latest_answer based (some l)) tt
    go true e = rw e refl
    go false e = rw e (ap (λ (w : List ℕ). accept (versioned_answer l.place l.incarnation w) tt) value)

sized : (s : Size) → group_output_ruling (size_output s) ≡ accept (size_answer s) tt
unfolding size_output size_answer group_output_ruling group_output_answer dependency_answer
sized (counted members sum) = refl
sized (waits place) = refl

pub size_kept : (based : Bool) (s : Size) → group_output_ruling (cond based (size_output s) Uninitialized) ≡ accept (cond based (size_answer s) (response uninitialized_kind [])) tt
unfolding group_output_ruling group_output_answer
size_kept true s = sized s
size_kept false s = refl
