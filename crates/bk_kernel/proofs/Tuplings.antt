-- Terms of pairs, taken apart from the right.
use Rattle.std.proofs.Common.{◌≡◌, ℕ, zero, suc, ◌-◌, ◌<◌, List, [], ◌∷◌, ◌++◌, length, refl, sym, ◌∙◌, ap, arith}
use Rattle.std.specs.Prelude.{Option, Some, None}
use Rattle.std.specs.Option.{option_map, option_and_then}
use Rattle.std.proofs.lemmas.List.{append_assoc}
use Rattle.bk_form.specs.Formula.{Formula, binary, formulas_of}
use Rattle.bk_form.specs.Replacement.{count}
use Rattle.bk_form.specs.declared.operator.BinOp.TheVariants.{Maps}
use Rattle.bk_kernel.specs.Branches.{sides}
use Rattle.bk_kernel.specs.Membership.{unpaired}

map-map : {A B C : Type 0} (f : B → C) (g : A → B) (o : Option A) → option_map f (option_map g o) ≡ option_map (λ x. f (g x)) o
map-map f g None = refl
map-map f g (Some x) = refl

-- the terms that come after are those behind the others
pub unpaired-after : (n : ℕ) (f : Formula) (after : List Formula) → unpaired n f after ≡ option_map (λ es. es ++ after) (unpaired n f [])
unpaired-after zero f after = refl
unpaired-after (suc n) (binary Maps a b) after =
    unpaired-after n a (b ∷ after)
    ∙ ap (λ g. option_map g (unpaired n a [])) (λ i es. sym (append_assoc es (b ∷ []) after) i)
    ∙ sym (map-map (λ es. es ++ after) (λ es. es ++ b ∷ []) (unpaired n a []))
    ∙ ap (option_map (λ es. es ++ after)) (sym (unpaired-after n a (b ∷ [])))
unpaired-after (suc n) f after = refl

-- one pair more, by the view of its sides
pub unpaired-sides : (n : ℕ) (f : Formula) → unpaired (suc n) f [] ≡ option_and_then (λ x. option_map (λ es. es ++ x.1 ∷ []) (unpaired n x.0 [])) (sides Maps f)
unpaired-sides n (binary Maps a b) = unpaired-after n a (b ∷ [])
unpaired-sides n (binary o a b) = refl
unpaired-sides n f = refl

pub count_listed : (fs : List Formula) → count (formulas_of fs) ≡ length fs
count_listed [] = refl
count_listed (f ∷ fs) = ap suc (count_listed fs)

-- a pair by its sides, and none without them; of n pairs, n - 1 stand on the left
pub pair-taken : (n : ℕ) (f l r : Formula) (o : Option (List Formula)) → 0 < n → Some (l, r) ≡ sides Maps f → o ≡ unpaired (n - 1) l [] → option_map (λ es. es ++ r ∷ []) o ≡ unpaired n f []
pair-taken zero f l r o p h e = absurd (omega arith)
pair-taken (suc m) f l r o p h e =
    let same : suc m - 1 ≡ m = omega arith in
    ap (option_map (λ es. es ++ r ∷ [])) (e ∙ ap (λ k. unpaired k l []) same)
    ∙ ap (option_and_then (λ x. option_map (λ es. es ++ x.1 ∷ []) (unpaired m x.0 []))) h
    ∙ sym (unpaired-sides m f)

pub no-pair : (n : ℕ) (f : Formula) → 0 < n → None ≡ sides Maps f → None ≡ unpaired n f []
no-pair zero f p h = absurd (omega arith)
no-pair (suc m) f p h = ap (option_and_then (λ x. option_map (λ es. es ++ x.1 ∷ []) (unpaired m x.0 []))) h ∙ sym (unpaired-sides m f)

pub ruleset unpaired_steps = (pair-taken, no-pair)
