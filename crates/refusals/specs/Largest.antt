-- Aid: a script's largest byte, by which the code tells bytes over 2 and cuts.
-- Assumes nothing.
use Rattle.std.specs.Prelude.{ℕ, max, List, [], ◌∷◌}

unfoldable pub largest_in : List ℕ → ℕ
largest_in [] = 0
largest_in (x ∷ xs) = max x (largest_in xs)
