-- What a test says of a statement. Assumes nothing.
use mathlib.Core.{Path.◌≡◌, Bool.{Bool, true}}

-- a test that decides a statement: it comes out true exactly where the statement holds
pub record Decided (A : Type 0) (r : Bool) : Type 0 where
  pub yes : r ≡ true → A
  pub only : A → r ≡ true
