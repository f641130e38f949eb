-- Sums and products don't depend on which number comes first.
use Rattle.std.proofs.Common.{◌≡◌, ℕ, ◌%◌, ◌^◌, List, [], ◌∷◌, map, refl, ap, add_comm, mul_comm, ◌∙◌}
use Rattle.pj_block.specs.declared.numbers.Arith.{Arith}
use Rattle.pj_block.specs.declared.numbers.Arith.TheVariants as ariths
use Rattle.pj_block.specs.Blocks.{of_two}

of_two-turned : (arith : Arith) (m n : ℕ) → of_two arith m n ≡ of_two arith n m
of_two-turned ariths.Add m n = ap (λ k. k % 2 ^ 64) (add_comm m n)
of_two-turned ariths.Mul m n = ap (λ k. k % 2 ^ 64) (mul_comm m n)

-- those of one number with each of a list
pub each-turned : (arith : Arith) (m : ℕ) (ns : List ℕ)
    → map (λ n. of_two arith n m) ns ≡ map (λ n. of_two arith m n) ns
each-turned arith m [] = refl
each-turned arith m (n ∷ ns) =
    ap (λ k. k ∷ map (λ n. of_two arith n m) ns) (of_two-turned arith n m)
    ∙ ap (λ ks. of_two arith m n ∷ ks) (each-turned arith m ns)
