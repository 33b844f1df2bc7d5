-- The elements of a list under a test.
use Rattle.std.specs.Prelude.{Bool, true, cond, ◌&&◌, List, [], ◌∷◌}

-- The elements that pass a test.
unfoldable pub keep : {A : Type 0} → (A → Bool) → List A → List A
keep p [] = []
keep p (x ∷ xs) = cond (p x) (x ∷ keep p xs) (keep p xs)

-- All of them pass it.
unfoldable pub every : {A : Type 0} → (A → Bool) → List A → Bool
every p [] = true
every p (x ∷ xs) = p x && every p xs

-- The elements at the front that pass it, up to the first that does not.
unfoldable pub front : {A : Type 0} → (A → Bool) → List A → List A
front p [] = []
front p (x ∷ xs) = cond (p x) (x ∷ front p xs) []
