-- Lines of a listing, one by one.
use Rattle.std.proofs.Common.{◌≡◌, ℕ, zero, suc, ◌+◌, ◌-◌, ◌<◌, ◌≤◌, ◌⊎◌, inl, inr, List, [], ◌∷◌, ◌++◌, length, take, drop, slice_index_or, true, false, leb, min, refl, sym, ◌∙◌, ap, arith}
use Rattle.std.proofs.lemmas.Bool.Decides.{leb_tells}
use Rattle.std.proofs.lemmas.List.{append_assoc, append-nil, drop_more, drop_all}
use Rattle.bk_code.specs.declared.instruction.Inst.{Inst}
use Rattle.bk_report.specs.Listing.{instruction_line, lines_from}

-- the first of the lines that are left, and the rest
pub one_line : (code : List Inst) (place to : ℕ) (d : Inst) → place < to → place < length code →
    lines_from place (take (to - place) (drop place code)) ≡ instruction_line place (slice_index_or code place d) ++ lines_from (place + 1) (take (to - (place + 1)) (drop (place + 1) code))
one_line code place to d below inside =
    ap (λ xs. lines_from place (take (to - place) xs)) (drop_more code place d inside) ∙
    ap (λ n. lines_from place (take n (slice_index_or code place d ∷ drop (place + 1) code))) (one_more place to below)
  where
    one_more : (a b : ℕ) → a < b → b - a ≡ suc (b - (a + 1))
    one_more a b h = omega (arith, h)

-- behind the last no line is left
pub no_line : (code : List Inst) (place to : ℕ) → (to ≤ place) ⊎ (length code ≤ place) → lines_from place (take (to - place) (drop place code)) ≡ []
no_line code place to (inl h) = ap (λ n. lines_from place (take n (drop place code))) (zero_left place to h)
  where
    zero_left : (a b : ℕ) → b ≤ a → b - a ≡ 0
    zero_left a b h = omega (arith, h)
no_line code place to (inr h) = ap (λ xs. lines_from place (take (to - place) xs)) (drop_all place code h) ∙ take_nothing (to - place)
  where
    take_nothing : (n : ℕ) → lines_from place (take n []) ≡ []
    take_nothing zero = refl
    take_nothing (suc n) = refl

-- ---- a text, and behind it the lines that are left
pub more_lines : (code : List Inst) (place to : ℕ) (d : Inst) (text new all : List ℕ) → place < to → place < length code → new ≡ text ++ instruction_line place (slice_index_or code place d) →
    text ++ lines_from place (take (to - place) (drop place code)) ≡ all → new ++ lines_from (place + 1) (take (to - (place + 1)) (drop (place + 1) code)) ≡ all
more_lines code place to d text new all below inside e h =
    ap (λ (x : List ℕ). x ++ lines_from (place + 1) (take (to - (place + 1)) (drop (place + 1) code))) e ∙
    (append_assoc text (instruction_line place (slice_index_or code place d)) (lines_from (place + 1) (take (to - (place + 1)) (drop (place + 1) code))) ∙
    (ap (λ (x : List ℕ). text ++ x) (sym (one_line code place to d below inside)) ∙ h))

pub all_lines : (code : List Inst) (place to : ℕ) (text all : List ℕ) → min to (length code) ≤ place → text ++ lines_from place (take (to - place) (drop place code)) ≡ all → text ≡ all
all_lines code place to text all end h = sym (append-nil text) ∙ (ap (λ (x : List ℕ). text ++ x) (sym (no_line code place to (past (leb_tells to place)))) ∙ h)
  where
    past : ((leb to place ≡ true) × (to ≤ place)) ⊎ ((leb to place ≡ false) × (place < to)) → (to ≤ place) ⊎ (length code ≤ place)
    past (inl k) = inl k.1
    past (inr k) = inr (omega (arith, end, k.1))
