-- Laws of rulings carried to the model: what a caller sees, and what is left.
-- Assumes nothing.
use mathlib.Core.Path.{◌≡◌, refl, ap}
use Rattle.model.specs.Data.{Ruling, refuse, accept}
use Rattle.model.specs.Model.{Model, ruled, left_by, outcome_of}

-- a ruling carried in two steps
pub ruled_ruled : {A : Type 0} (h : Model → Model) (f g : A → Model) → ((a : A) → f a ≡ h (g a)) → (r : Ruling A) → ruled f r ≡ ruled h (ruled g r)
unfolding ruled
ruled_ruled h f g e (refuse n) = refl
ruled_ruled h f g e (accept answer a) = ap (accept answer) (e a)

pub outcome_ruled : (h : Model → Model) (r : Ruling Model) → outcome_of (ruled h r) ≡ outcome_of r
unfolding outcome_of ruled
outcome_ruled h (refuse n) = refl
outcome_ruled h (accept answer m) = refl

pub left_ruled : (h : Model → Model) (m : Model) (r : Ruling Model) → left_by (h m) (ruled h r) ≡ h (left_by m r)
unfolding left_by ruled
left_ruled h m (refuse n) = refl
left_ruled h m (accept answer after) = refl

-- what every model that a ruling can give has in common with the one before, what is left has too
pub left_as : {A B : Type 0} (of : Model → B) (m : Model) (f : A → Model) → ((a : A) → of (f a) ≡ of m) → (r : Ruling A) → of (left_by m (ruled f r)) ≡ of m
unfolding ruled left_by
left_as of m f e (refuse n) = refl
left_as of m f e (accept answer a) = e a

pub left_has : {A : Type 0} (P : Model → Type 0) (m : Model) (f : A → Model) → P m → ((a : A) → P (f a)) → (r : Ruling A) → P (left_by m (ruled f r))
unfolding ruled left_by
left_has P m f h e (refuse n) = h
left_has P m f h e (accept answer a) = e a
