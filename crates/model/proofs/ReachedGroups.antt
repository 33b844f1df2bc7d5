-- What the laws of finalising ask holds of every model that a list of requests leaves: an update's tags are distinct, committed values rise.
-- Assumes nothing.
use mathlib.Core.Path.{◌≡◌, refl}
use mathlib.Core.Bool.{true}
use mathlib.Core.List.{List, [], ◌∷◌}
use mathlib.Core.Option.{none, some}
use Prim.Native.Nat.{ℕ, suc, ◌≤◌, ◌<◌}
use native.Mathlib.Omega.{arith}
use lib.Dec.{leb}
use borrow.Author.Tests.{leb-true, ne_eqb}
use Rattle.lists.specs.Lists.{every}
use Rattle.lists.proofs.Bools.{and_left, and_three}
use Rattle.request.specs.Set.{Member}
use Rattle.model.specs.Rows.{rising, find}
use Rattle.model.specs.Group.{Update, first_tagged, member_value, is_some}
use Rattle.model.specs.Model.{Fixed, empty, after}
use Rattle.model.specs.Fine.{is_word, rising_from, fine_member, fine_members}
use Rattle.model.proofs.GroupLaws.{distinct}
use Rattle.model.proofs.FineRows.{fine_own}
use Rattle.model.proofs.FineUpdates.{fine_find_update, update_members}
use Rattle.model.proofs.FineCommitted.{group_rising}
use Rattle.model.proofs.FineModel.{fine_updates_lem, fine_committed_lem}
use Rattle.model.proofs.StepFacts.{after_empty_fine}

-- tags that rise from above a tag are others
value_of_rising : (least tag : ℕ) (ms : List Member) → tag < least → rising_from least ms ≡ true → member_value tag ms ≡ none
unfolding rising_from member_value first_tagged
value_of_rising least tag [] l r = refl
value_of_rising least tag (m ∷ ms) l r =
    let p = and_three (leb least m.tag) (leb m.tag 63) (rising_from (suc m.tag) ms) r in
    let h : least ≤ m.tag = leb-true least m.tag p.0 in
    rw (ne_eqb m.tag tag (λ e. omega arith)) (value_of_rising (suc m.tag) tag ms (omega arith) p.2)

pub distinct_rising : (least : ℕ) (ms : List Member) → rising_from least ms ≡ true → distinct ms ≡ true
unfolding rising_from distinct is_some
distinct_rising least [] r = refl
distinct_rising least (m ∷ ms) r =
    let p = and_three (leb least m.tag) (leb m.tag 63) (rising_from (suc m.tag) ms) r in
    rw (value_of_rising (suc m.tag) m.tag ms (omega arith) p.2) (distinct_rising (suc m.tag) ms p.2)

module _ (s : Fixed) (requests : List (List ℕ)) (w : every (every is_word) requests ≡ true) where
  pub found_distinct : (key place : ℕ) (u : Update) → find key place (after s empty requests).updates ≡ some u → distinct u.members ≡ true
  unfolding fine_own fine_members
  found_distinct key place u e =
      let m = after s empty requests in
      let own = rw e at (fine_find_update key place m.updates (fine_updates_lem m (after_empty_fine s requests w))) in
      distinct_rising 0 u.members (and_left (rising_from 0 u.members) (every (fine_member place) u.members) (update_members place u own))

  pub committed_rising : rising (after s empty requests).committed ≡ true
  committed_rising =
      let m = after s empty requests in
      group_rising m.committed (fine_committed_lem m (after_empty_fine s requests w))
