-- A member of the family takes a small input and has six outputs.
use Rattle.std.proofs.Common.{◌≡◌, ℕ, ℤ, pos, neg_ℤ, ◌≤ℤ◌, [], ◌∷◌, map, length, refl, sym, subst, arith}
use Rattle.std.specs.Prelude.{codes}
use Rattle.std.proofs.lemmas.Int.{ints}
use Rattle.std.proofs.lemmas.List.Elements.{All-nil, All-cons}
use Rattle.bk_code.specs.Numbers.{IsWithin, int_max, default_max}
use Rattle.bk_code.specs.declared.image.Image.{Image}
use Rattle.bk_code.specs.declared.image.OpEntry.{OpEntry}
use Rattle.bk_gsl.specs.Substitution.{Substitution}
use Rattle.bk_dev.specs.Development.{Development}
use Rattle.bk_b0.specs.Places.{placed_parameter, placed_block}
use Rattle.bk_b0.specs.Translation.{places_of, translation}
use Rattle.bk_vm.specs.State.{TakesCall}
use Rattle.bk_tests_sessions.specs.Drawn.{starting, code_outputs, family, IsFamily}

abbrev step-entry : Substitution → OpEntry
step-entry s = record {
  name = codes "step";
  start = length (placed_block (places_of (family s)) starting);
  inputs = map (placed_parameter (places_of (family s))) (4 ∷ []);
  outputs = map (placed_parameter (places_of (family s))) code_outputs;
}

within-small : (z : ℤ) → neg_ℤ (pos 20) ≤ℤ z → z ≤ℤ pos 20 → IsWithin default_max z
within-small z low high = (omega (arith, ints, low), omega (arith, ints, high))

takes-step : (s : Substitution) (z : ℤ) → neg_ℤ (pos 20) ≤ℤ z → z ≤ℤ pos 20 → TakesCall (translation (family s)) 0 (z ∷ []) 6
takes-step s z low high = record {
  entry = step-entry s;
  named = refl;
  callable = record { counted = refl; range = All-cons (IsWithin (int_max (translation (family s)))) z [] (within-small z low high) (All-nil (IsWithin (int_max (translation (family s))))) };
  counted = refl;
}

pub takes_step : (image : Image) (dev : Development) (z : ℤ) (outs : ℕ) → image ≡ translation dev → IsFamily dev → neg_ℤ (pos 20) ≤ℤ z → z ≤ℤ pos 20 → outs ≡ 6 → TakesCall image 0 (z ∷ []) outs
takes_step image dev z outs same member low high six =
    let at = takes-step member.step z low high in
    let named = subst (λ (d : Development). TakesCall (translation d) 0 (z ∷ []) 6) (sym member.is) at in
    subst (λ n. TakesCall image 0 (z ∷ []) n) (sym six) (subst (λ (i : Image). TakesCall i 0 (z ∷ []) 6) (sym same) named)
