-- What the code that builds patterns needs of them.
use Rattle.std.proofs.Common.{◌≡◌, ℕ, zero, suc, ◌+◌, ◌-◌, ◌^◌, ◌<◌, ◌≤◌, List, [], ◌∷◌, map, refl, ap, All, arith, false}
use Rattle.std.specs.Prelude.{Option, Some, None, slice_get}
use Rattle.std.proofs.lemmas.List.Elements.{All-head, All-tail}
use Rattle.bk_limits.specs.declared.TheConstants.{MOST_NODES}
use Rattle.bk_form.specs.Formula.{Formula, btrue, formula_size}
use Rattle.bk_ops.specs.declared.law.Pat.{Pat}
use Rattle.bk_laws.specs.declared.kind.Kind.{Kind}
use Rattle.bk_laws.specs.declared.kind.Kind.TheVariants.{Letter, One, Two}
use Rattle.bk_laws.specs.Patterns.{Pattern, fixed, formula_of, asks_empty}
use Rattle.bk_laws.specs.Rows.{IsSmall, pick_at}
use Rattle.bk_laws.specs.Tables.{kind_of, made, made_of, pattern_at}

-- one step down
pub pattern-none : (pats : List Pat) (d n : ℕ) → slice_get pats n ≡ None → pattern_at pats d n ≡ fixed btrue
pattern-none pats zero n h = refl
pattern-none pats (suc d) n h = rw h

pub pattern-some : (pats : List Pat) (d n : ℕ) (p : Pat) → 0 < d → slice_get pats n ≡ Some p → pattern_at pats d n ≡ made (pattern_at pats (d - 1)) p.first p.second (kind_of p.op)
pattern-some pats zero n p l h = absurd (omega arith)
pattern-some pats (suc d) n p l h = let e : suc d - 1 ≡ d = omega arith in rw (h, e)

pub formula-none : (pats : List Pat) (picks : ℕ → Formula) (d n : ℕ) → slice_get pats n ≡ None → formula_of picks (pattern_at pats d n) ≡ btrue
formula-none pats picks d n h = rw (pattern-none pats d n h)

pub formula-some : (pats : List Pat) (picks : ℕ → Formula) (d n : ℕ) (p : Pat) → 0 < d → slice_get pats n ≡ Some p → formula_of picks (pattern_at pats d n) ≡ formula_of picks (made (pattern_at pats (d - 1)) p.first p.second (kind_of p.op))
formula-some pats picks d n p l h = rw (pattern-some pats d n p l h)

pub ruleset pattern_steps = (formula-none, formula-some)

pub asks-none : (pats : List Pat) (k d n : ℕ) → slice_get pats n ≡ None → asks_empty k (pattern_at pats d n) ≡ false
asks-none pats k d n h = rw (pattern-none pats d n h)

pub asks-some : (pats : List Pat) (k d n : ℕ) (p : Pat) → 0 < d → slice_get pats n ≡ Some p → asks_empty k (pattern_at pats d n) ≡ asks_empty k (made (pattern_at pats (d - 1)) p.first p.second (kind_of p.op))
asks-some pats k d n p l h = rw (pattern-some pats d n p l h)

pub ruleset asks_steps = (asks-none, asks-some)

pub map-twice : {A B C : Type 0} → (f : B → C) (g : A → B) (xs : List A) → map f (map g xs) ≡ map (λ x. f (g x)) xs
map-twice f g [] = refl
map-twice f g (x ∷ xs) = ap (λ ys. f (g x) ∷ ys) (map-twice f g xs)

-- the formulas of some patterns, at once
pub sides-built : (pats : List Pat) (picks : ℕ → Formula) (d : ℕ) (ns : List ℕ) → map (formula_of picks) (map (pattern_at pats d) ns) ≡ map (λ n. formula_of picks (pattern_at pats d n)) ns
sides-built pats picks d ns = map-twice (formula_of picks) (pattern_at pats d) ns

pub ruleset map_steps = (sides-built, map-twice)

-- ---- how large a pattern's formula is
pick-size : (picks : List Formula) (k : ℕ) → All IsSmall picks → formula_size (pick_at picks k) ≤ MOST_NODES
pick-size [] zero h = grind arith
pick-size [] (suc k) h = grind arith
pick-size (p ∷ ps) zero h = All-head IsSmall p ps h
pick-size (p ∷ ps) (suc k) h = pick-size ps k (All-tail IsSmall p ps h)

-- one more than the most nodes of a formula of a pattern of this depth
abbrev pub most : ℕ → ℕ
most zero = 200002
most (suc d) = most d + most d

most-more : (d : ℕ) → 200002 ≤ most d
most-more zero = omega arith
most-more (suc d) = let k = most-more d in omega arith

made-size : (picks : List Formula) (at : ℕ → Pattern) (bound m n : ℕ) (kind : Kind) → All IsSmall picks → 200002 ≤ bound → ((k : ℕ) → formula_size (formula_of (pick_at picks) (at k)) < bound) → formula_size (formula_of (pick_at picks) (made at m n kind)) < bound + bound
made-size picks at bound m n Letter h b on = let k = pick-size picks m h in omega arith
made-size picks at bound m n (One o) h b on = let k = on m in omega arith
made-size picks at bound m n (Two o) h b on = let k = on m in let l = on n in omega arith
made-size picks at bound m n _ h b on = omega arith

of-size : (picks : List Formula) (at : ℕ → Pattern) (bound : ℕ) → All IsSmall picks → 200002 ≤ bound → ((k : ℕ) → formula_size (formula_of (pick_at picks) (at k)) < bound) → (o : Option Pat) → formula_size (formula_of (pick_at picks) (made_of at o)) < bound + bound
of-size picks at bound h b on None = omega arith
of-size picks at bound h b on (Some p) = made-size picks at bound p.first p.second (kind_of p.op) h b on

pub pattern-size : (pats : List Pat) (picks : List Formula) (d n : ℕ) → All IsSmall picks → formula_size (formula_of (pick_at picks) (pattern_at pats d n)) < most d
pattern-size pats picks zero n h = omega arith
pattern-size pats picks (suc d) n h = of-size picks (pattern_at pats d) (most d) h (most-more d) (λ k. pattern-size pats picks d k h) (slice_get pats n)

most-few : (d : ℕ) → d < 8 → most d ≤ 2 ^ 30
most-few zero l = omega arith
most-few (suc zero) l = omega arith
most-few (suc (suc zero)) l = omega arith
most-few (suc (suc (suc zero))) l = omega arith
most-few (suc (suc (suc (suc zero)))) l = omega arith
most-few (suc (suc (suc (suc (suc zero))))) l = omega arith
most-few (suc (suc (suc (suc (suc (suc zero)))))) l = omega arith
most-few (suc (suc (suc (suc (suc (suc (suc zero))))))) l = omega arith
most-few (suc (suc (suc (suc (suc (suc (suc (suc d)))))))) l = absurd (omega arith)

-- the parts of a node below the greatest depth
pub small-parts : (pats : List Pat) (picks : List Formula) (d n : ℕ) → All IsSmall picks → d < 8 → formula_size (formula_of (pick_at picks) (pattern_at pats d n)) < 2 ^ 30
small-parts pats picks d n h l = let k = pattern-size pats picks d n h in let m = most-few d l in omega arith
