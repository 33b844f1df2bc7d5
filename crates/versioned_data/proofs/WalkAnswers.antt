-- What the walk answers at its end, at a number, at a write and at each entry, one law for each way out.
-- Assumes nothing.
use mathlib.Core.Path.{◌≡◌, refl, sym, ◌∙◌, ap, ap₂}
use mathlib.Core.Bool.{Bool, true, false, not}
use mathlib.Core.List.{List}
use mathlib.Core.Option.{Option, none, some}
use Rattle.std.specs.Prelude.{Option as MayBe}
use Rattle.std.specs.Prelude.{Some, None, Result, Ok, Err}
use Rattle.std.specs.Result.{result_unwrap_or}
use Prim.Native.Nat.{ℕ, zero, suc, ◌-◌}
use native.Mathlib.Omega.{arith}
use lib.Dec.{eqb}
use Rattle.number.specs.Number.{Halves, value_of, number_of}
use Rattle.number.specs.declared.Number.{Number}
use Rattle.number.proofs.Halves.{number_of_value_of, value_of_number_of}
use Rattle.delta.specs.Delta.{Delta, Accumulated, apply_to}
use Rattle.delta.specs.Op.{op_of, exactly, applied_of}
use Rattle.delta.specs.declared.DeltaOp.{DeltaOp}
use Rattle.delta.specs.declared.Accumulator.{Accumulator}
use Rattle.delta.specs.declared.Accumulator.TheVariants.{Empty, Gathered, Failed}
use Rattle.types.specs.Index.{word_of, index_of}
use Rattle.types.specs.Value.{layout_of, is_deletion, has_number, number_in}
use Rattle.types.specs.ValueWithLayout.{words_of, as_u128_of}
use Rattle.types.specs.ValueWithLayout.{value_from as struct_of}
use Rattle.types.specs.declared.index.StorageVersion.{StorageVersion}
use Rattle.types.specs.declared.index.ShiftedTxnIndex.{ShiftedTxnIndex}
use Rattle.types.specs.declared.value.ValueWithLayout.{ValueWithLayout}
use Rattle.types.specs.declared.value.NotANumber.{NotANumber}
use Rattle.types.specs.declared.output.MVDataOutput.{MVDataOutput}
use Rattle.types.specs.declared.output.MVDataOutput.TheVariants.{Versioned, Resolved, Unresolved, Uninitialized, Dependency, DeltaApplicationFailure}
use Rattle.types.specs.declared.refusal.Refusal.{Refusal}
use Rattle.types.specs.declared.refusal.Refusal.TheVariants.{LayoutUnderDelta, NoNumberUnderDelta}
use Rattle.types.proofs.IndexLaws.{index_base, index_suc}
use Rattle.types.proofs.ValueLaws.{value_words_lem}
use Rattle.model.specs.Data.{dependency, at_end, onto, resolved_or, below_deltas, at_write}
use Rattle.versioned_data.specs.Output.{output_of, refusal_output}

value_of_lem : (v : Number) (m : Option ℕ) → Some v ≡ applied_of m → Ok (Resolved v) ≡ output_of (resolved_or m)
unfolding applied_of resolved_or output_of
value_of_lem v none e = absurd (let z : ◌≡◌ {A = ℕ} 0 1 = cc in omega arith)
value_of_lem v (some n) e = let f : v ≡ number_of n = cc in ap (λ (k : Number). Ok (Resolved k)) f

outside_of : (m : Option ℕ) → None ≡ applied_of m → Ok DeltaApplicationFailure ≡ output_of (resolved_or m)
unfolding applied_of resolved_or output_of
outside_of none e = refl
outside_of (some n) e = absurd (let z : ◌≡◌ {A = ℕ} 0 1 = cc in omega arith)

-- ---- at the end

module _ (acc : Accumulator) where
  pub end_empty : acc ≡ Empty → Ok Uninitialized ≡ output_of (at_end (exactly acc))
  unfolding exactly at_end output_of
  end_empty e = rw e

  pub end_gathered : (d : Delta) → acc ≡ Gathered d → (o : DeltaOp) → o ≡ op_of d → Ok (Unresolved o) ≡ output_of (at_end (exactly acc))
  unfolding exactly at_end output_of
  end_gathered d e o f = rw e (ap (λ (x : DeltaOp). Ok (Unresolved x)) f)

  pub end_failed : acc ≡ Failed → Ok DeltaApplicationFailure ≡ output_of (at_end (exactly acc))
  unfolding exactly at_end output_of
  end_failed e = rw e

  -- ---- a number below deltas

  module _ (n : Number) where
    pub onto_empty : acc ≡ Empty → Halves n → Ok (Resolved n) ≡ output_of (onto (exactly acc) (value_of n))
    unfolding exactly onto output_of
    onto_empty e h = rw e (ap (λ (k : Number). Ok (Resolved k)) (sym (number_of_value_of n h)))

    pub onto_failed : acc ≡ Failed → Ok DeltaApplicationFailure ≡ output_of (onto (exactly acc) (value_of n))
    unfolding exactly onto output_of
    onto_failed e = rw e

    module _ (d : Delta) (e : acc ≡ Gathered d) (r : MayBe Number) (a : r ≡ applied_of (apply_to d (value_of n))) where
      pub onto_value : (v : Number) → r ≡ Some v → Ok (Resolved v) ≡ output_of (onto (exactly acc) (value_of n))
      unfolding exactly onto
      onto_value v t = rw e (value_of_lem v (apply_to d (value_of n)) (sym t ∙ a))

      pub onto_outside : r ≡ None → Ok DeltaApplicationFailure ≡ output_of (onto (exactly acc) (value_of n))
      unfolding exactly onto
      onto_outside t = rw e (outside_of (apply_to d (value_of n)) (sym t ∙ a))

-- ---- a write below deltas

module _ (a : Accumulated) (shifted : ShiftedTxnIndex) (incarnation : ℕ) (v : ValueWithLayout) where
  pub below_layout : not (eqb (layout_of (words_of v)) 0) ≡ true → Err LayoutUnderDelta ≡ output_of (below_deltas a (word_of shifted) incarnation (words_of v))
  unfolding below_deltas output_of refusal_output
  below_layout h = rw h

  module _ (h : not (eqb (layout_of (words_of v)) 0) ≡ false) (r : Result (MayBe Number) NotANumber) (told : r ≡ as_u128_of (words_of v)) where
    pub below_deleted : Halves v.number → r ≡ Ok None → Ok (Versioned shifted incarnation v) ≡ output_of (below_deltas a (word_of shifted) incarnation (words_of v))
    unfolding below_deltas output_of as_u128_of
    below_deleted w t = go (is_deletion (words_of v)) refl (has_number (words_of v)) refl
      where
        go : (d : Bool) → is_deletion (words_of v) ≡ d → (n : Bool) → has_number (words_of v) ≡ n →
            Ok (Versioned shifted incarnation v) ≡ output_of (below_deltas a (word_of shifted) incarnation (words_of v))
        go true e n f = rw (h, e) (ap (λ (x : ValueWithLayout). Ok (Versioned shifted incarnation x)) (sym (value_words_lem v w)))
        go false e true f = let z : Ok None ≡ Ok (Some (number_of (number_in (words_of v)))) = sym t ∙ rw (e, f) at told in absurd (let y : ◌≡◌ {A = ℕ} 0 1 = cc in omega arith)
        go false e false f = let z : Ok None ≡ Err (record {}) = sym t ∙ rw (e, f) at told in absurd (let y : ◌≡◌ {A = ℕ} 0 1 = cc in omega arith)

    pub below_number : (n : Number) (o : Result MVDataOutput Refusal) → r ≡ Ok (Some n) → o ≡ output_of (onto a (value_of n)) → o ≡ output_of (below_deltas a (word_of shifted) incarnation (words_of v))
    unfolding below_deltas as_u128_of
    below_number n o t g = go (is_deletion (words_of v)) refl (has_number (words_of v)) refl
      where
        go : (d : Bool) → is_deletion (words_of v) ≡ d → (m : Bool) → has_number (words_of v) ≡ m → o ≡ output_of (below_deltas a (word_of shifted) incarnation (words_of v))
        go true e m f = let z : Ok (Some n) ≡ Ok None = sym t ∙ rw e at told in absurd (let y : ◌≡◌ {A = ℕ} 0 1 = cc in omega arith)
        go false e false f = let z : Ok (Some n) ≡ Err (record {}) = sym t ∙ rw (e, f) at told in absurd (let y : ◌≡◌ {A = ℕ} 0 1 = cc in omega arith)
        go false e true f =
            let z : Ok (Some n) ≡ Ok (Some (number_of (number_in (words_of v)))) = sym t ∙ rw (e, f) at told in
            let y : n ≡ number_of (number_in (words_of v)) = cc in
            rw (h, e, f) (g ∙ ap (λ (k : ℕ). output_of (onto a k)) (ap value_of y ∙ value_of_number_of (number_in (words_of v))))

    pub below_none : r ≡ Err (record {}) → Err NoNumberUnderDelta ≡ output_of (below_deltas a (word_of shifted) incarnation (words_of v))
    unfolding below_deltas output_of refusal_output as_u128_of
    below_none t = go (is_deletion (words_of v)) refl (has_number (words_of v)) refl
      where
        go : (d : Bool) → is_deletion (words_of v) ≡ d → (m : Bool) → has_number (words_of v) ≡ m → Err NoNumberUnderDelta ≡ output_of (below_deltas a (word_of shifted) incarnation (words_of v))
        go true e m f = let z : Err (record {}) ≡ Ok None = sym t ∙ rw e at told in absurd (let y : ◌≡◌ {A = ℕ} 0 1 = cc in omega arith)
        go false e true f = let z : Err (record {}) ≡ Ok (Some (number_of (number_in (words_of v)))) = sym t ∙ rw (e, f) at told in absurd (let y : ◌≡◌ {A = ℕ} 0 1 = cc in omega arith)
        go false e false f = rw (h, e, f)

-- ---- an estimate

pub waits : (w : ℕ) (r : Result ℕ StorageVersion) (x : ℕ) → r ≡ index_of w → x ≡ result_unwrap_or r 0 → Ok (Dependency x) ≡ output_of (dependency (w - 1))
unfolding output_of
waits zero r x e f =
    let g : x ≡ 0 - 1 = f ∙ ap (λ (q : Result ℕ StorageVersion). result_unwrap_or q 0) (e ∙ index_base) ∙ omega arith in
    ap (λ (k : ℕ). Ok (Dependency k)) g
waits (suc w) r x e f =
    let g : x ≡ suc w - 1 = f ∙ ap (λ (q : Result ℕ StorageVersion). result_unwrap_or q 0) (e ∙ index_suc w) ∙ omega arith in
    ap (λ (k : ℕ). Ok (Dependency k)) g

-- ---- a write

module _ (acc : Accumulator) (shifted : ShiftedTxnIndex) (i m : ℕ) (n : i ≡ m) (v : ValueWithLayout) (ws : List ℕ) where
  pub write_empty : acc ≡ Empty → v ≡ struct_of ws → Ok (Versioned shifted i v) ≡ output_of (at_write (exactly acc) (word_of shifted) m ws)
  unfolding exactly at_write output_of
  write_empty e f = rw e (ap₂ (λ (j : ℕ) (x : ValueWithLayout). Ok (Versioned shifted j x)) n f)

  pub write_gathered : (d : Delta) (o : Result MVDataOutput Refusal) → acc ≡ Gathered d → words_of v ≡ ws → o ≡ output_of (below_deltas (exactly acc) (word_of shifted) i (words_of v)) → o ≡ output_of (at_write (exactly acc) (word_of shifted) m ws)
  unfolding exactly at_write
  write_gathered d o e f g = g ∙ rw (e, f, n)

  pub write_failed : (o : Result MVDataOutput Refusal) → acc ≡ Failed → words_of v ≡ ws → o ≡ output_of (below_deltas (exactly acc) (word_of shifted) i (words_of v)) → o ≡ output_of (at_write (exactly acc) (word_of shifted) m ws)
  unfolding exactly at_write
  write_failed o e f g = g ∙ rw (e, f, n)
