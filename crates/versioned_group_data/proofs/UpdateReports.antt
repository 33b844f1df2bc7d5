-- What a write reports: whether some tag was not in the earlier update.
-- Assumes nothing.
use mathlib.Core.Path.{◌≡◌, refl, sym, ◌∙◌, ap}
use mathlib.Core.Bool.{Bool, true, false, not, ◌||◌}
use mathlib.Core.List.{List, [], ◌∷◌}
use mathlib.Core.Option.{Option, none, some}
use Prim.Native.Nat.{ℕ, ◌+◌}
use lib.ListN.{drop}
use Rattle.types.specs.Value.{value_width}
use Rattle.request.specs.Set.{Member, tags_of, members_of}
use Rattle.request.specs.declared.members.Members.{Members}
use Rattle.request.specs.Members as Handed
use Rattle.std.proofs.Common.{Result}
use Rattle.std.proofs.Common.{Result, Ok, Err}
use Rattle.model.specs.Rows.{find}
use Rattle.model.specs.Group.{is_some, member_value, members_in, outside, write_group}
use Rattle.model.specs.Model.{ruled}
use Rattle.group_slots.specs.Layout.{groups_in}
use Rattle.slots.specs.Found.{found_of}
use Rattle.group_slots.specs.Found.{member_found, start_of, lower_in}
use Rattle.versioned_group_data.specs.Ruled.{editing, result_of, words_after, Ruled}
use Rattle.versioned_group_data.specs.Members.{done_update, recording}
use Rattle.versioned_group_data.specs.Written.{Writes, written_of}
use Rattle.versioned_group_data.specs.declared.update.Written.TheVariants.{Done, Outside}
use Rattle.versioned_group_data.specs.declared.update.Written.{Written}
use Rattle.types.specs.Refusal.{refusal_number}
use Rattle.types.specs.declared.refusal.Refusal.{Refusal}
use Rattle.std.specs.Result.{is_err}

-- the values play no part
outside_words : (ts ws vs : List ℕ) (es : List Member) → outside (members_of ts ws) es ≡ outside (members_of ts vs) es
unfolding outside members_of
outside_words [] ws vs es = refl
outside_words (t ∷ ts) ws vs es =
    ap (λ (b : Bool). not (is_some (member_value t es)) || b) (outside_words ts (drop value_width ws) (drop value_width vs) es)

outside_cons : (t : ℕ) (ts : List ℕ) (es : List Member) → outside (members_of (t ∷ ts) []) es ≡ (not (is_some (member_value t es)) || outside (members_of ts []) es)
unfolding outside members_of
outside_cons t ts es = ap (λ (b : Bool). not (is_some (member_value t es)) || b) (outside_words ts (drop value_width []) [] es)

pub outside_end : (ts : List ℕ) (es : List Member) (b : Bool) → ts ≡ [] → outside (members_of ts []) es ≡ b → false ≡ b
unfolding outside members_of
outside_end ts es b e h = ap (λ (l : List ℕ). outside (members_of l []) es) (sym e) ∙ h

found_err : {A : Type 0} (n : ℕ) (o : Option A) → is_err (found_of n o) ≡ not (is_some o)
unfolding found_of is_some
found_err n none = refl
found_err n (some a) = refl

-- A tag that is looked for among the members of the update there.
module _ (s : List ℕ) (k p : ℕ) (ts ts' : List ℕ) (f : ℕ) (cons : ts ≡ f ∷ ts') (r : Result ℕ ℕ) (found : r ≡ member_found k p f (groups_in s)) (a b : Bool) (told : a ≡ is_err r)
    (rest : outside (members_of ts []) (members_in (find k p (groups_in s).updates)) ≡ b) where
  abbrev es : List Member
  es = members_in (find k p (groups_in s).updates)

  split : (a || outside (members_of ts' []) es) ≡ b
  unfolding member_found
  split =
      ap (λ (c : Bool). c || outside (members_of ts' []) es)
      (told ∙ ap is_err found ∙ found_err (start_of k p (groups_in s) + lower_in f (find k p (groups_in s).updates)) (member_value f es))
      ∙ sym (outside_cons f ts' es) ∙ ap (λ (l : List ℕ). outside (members_of l []) es) (sym cons) ∙ rest

  pub outside_there : a ≡ false → outside (members_of ts' []) es ≡ b
  outside_there e = ap (λ (c : Bool). c || outside (members_of ts' []) es) (sym e) ∙ split

  pub outside_absent : a ≡ true → true ≡ b
  outside_absent e = ap (λ (c : Bool). c || outside (members_of ts' []) es) (sym e) ∙ split

-- A write is a record of the update, and its report.
module _ (s : List ℕ) (k p q : ℕ) (same : q ≡ p) (i : ℕ) (handed : Members) (b : Bool)
    (report : b ≡ outside (members_of (tags_of handed.set.low handed.set.high) []) (members_in (find k q (groups_in s).updates))) (n : ℕ) (after : List ℕ)
    (recorded : Ruled s (recording k q (done_update i (Handed.members_in handed)) (groups_in s)) n after) where
  abbrev ms : List Member
  ms = Handed.members_in handed

  result_is : n ≡ result_of s (editing (groups_in s) k p (write_group i ms))
  unfolding recording editing ruled write_group done_update result_of
  result_is = recorded.result ∙ ap (λ (x : ℕ). result_of s (recording k x (done_update i ms) (groups_in s))) same

  words_are : after ≡ words_after s (editing (groups_in s) k p (write_group i ms))
  unfolding recording editing ruled write_group done_update words_after
  words_are = recorded.words ∙ ap (λ (x : ℕ). words_after s (recording k x (done_update i ms) (groups_in s))) same

  report_is : b ≡ outside ms (members_in (find k p (groups_in s).updates))
  unfolding Handed.members_in
  report_is =
      report
      ∙ outside_words (tags_of handed.set.low handed.set.high) [] handed.values.now (members_in (find k q (groups_in s).updates))
      ∙ ap (λ (x : ℕ). outside ms (members_in (find k x (groups_in s).updates))) same

  pub write_refused : (e : Refusal) → refusal_number e ≡ n → Writes s k p i ms (Err e) after
  write_refused e h = record { result = h ∙ result_is; answer = tt; words = words_are }

  write_ok : (w : Written) → n ≡ 0 → w ≡ written_of b → Writes s k p i ms (Ok w) after
  write_ok w h e = record { result = sym h ∙ result_is; answer = e ∙ ap written_of report_is; words = words_are }

  pub write_outside : n ≡ 0 → b ≡ true → Writes s k p i ms (Ok Outside) after
  unfolding written_of
  write_outside h e = write_ok Outside h (rw e)

  pub write_done : n ≡ 0 → b ≡ false → Writes s k p i ms (Ok Done) after
  unfolding written_of
  write_done h e = write_ok Done h (rw e)
