-- The longest sign.
use Rattle.std.proofs.Common.{◌≡◌, ℕ, ◌<◌, ◌≤◌, ◌++◌, List, length, take, drop, Some, refl, sym, arith, inl, inr, take-append-drop, length-take}
use Rattle.std.proofs.lemmas.Bool.{cases_lt}
use Rattle.bk_lex.specs.Lexis.{sign_number}
use Rattle.bk_lex.specs.Parts.{IsFirstSign, NoSignOfLength, BeginsNoSign}
use Rattle.bk_lex.proofs.Numbered.{sign_length}

pub no_sign : (text : List ℕ) (n : ℕ) → n ≤ 0 → ((k : ℕ) → n < k → k ≤ 4 → NoSignOfLength k text) → BeginsNoSign text
no_sign text n z h op written after s e =
    let sizes = sign_length op written s in
    h (length written) (omega (arith, sizes.0)) sizes.1 op written after refl s e

pub first_sign : (n op : ℕ) (text : List ℕ) → n ≤ length text → sign_number (take n text) ≡ Some op → ((k : ℕ) → n < k → k ≤ 4 → NoSignOfLength k text) → IsFirstSign op text (drop n text)
first_sign n op text l s h = record {
  written = take n text;
  spelling = s;
  splits = sym (take-append-drop n text);
  longest = longest;
}
  where
    longest : (other : ℕ) (more after : List ℕ) → sign_number more ≡ Some other → text ≡ more ++ after → length more ≤ length (take n text)
    longest other more after t e = elim (cases_lt n (length more)) [
      | inl longer ↦ absurd (h (length more) longer (sign_length other more t).1 other more after refl t e)
      | inr shorter ↦ omega (arith, length-take n text)
    ]
