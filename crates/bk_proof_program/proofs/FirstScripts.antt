-- The first script with a name, script by script.
use Rattle.std.proofs.Common.{◌≡◌, ◌∙◌, ℕ, zero, suc, ◌+◌, ◌<◌, ◌≤◌, Bool, true, false, cond, List, [], ◌∷◌, length, take, get_or, Option, Some, None, sym, ap, subst, arith}
use Rattle.std.specs.Str.{bytes_eq}
use Rattle.std.proofs.lemmas.List.{take_all}
use Rattle.bk_raw.specs.Trees.ScriptTree.{RawScript}
use Rattle.bk_status.specs.States.{name_text, script_named}

is_there : (s : RawScript) → Some s ≡ None → ⊥
is_there s e = cc

module _ (name : List ℕ) where
  abbrev is : RawScript → Bool
  is s = bytes_eq name (name_text s.name)

  -- what stands before others in a list where none is found among the first
  behind : (b : Bool) (s : RawScript) (one other : Option RawScript) → cond b (Some s) one ≡ None → (one ≡ None → other ≡ None) → cond b (Some s) other ≡ None
  behind true s one other e h = e
  behind false s one other e h = h e

  -- what is found after a script that is not the one
  passing : (b : Bool) (s : RawScript) (here there found : Option RawScript) → cond b (Some s) here ≡ None → (here ≡ None → found ≡ there) → found ≡ cond b (Some s) there
  passing true s here there found m f = absurd (is_there s m)
  passing false s here there found m f = f m

  one-more : (scripts : List RawScript) (i : ℕ) (d : RawScript) → i < length scripts → is (get_or scripts i d) ≡ false → script_named (take i scripts) name ≡ None → script_named (take (i + 1) scripts) name ≡ None
  one-more [] i d l e h = absurd (omega arith)
  one-more (s ∷ ss) zero d l e h = ap (λ b. cond b (Some s) None) e
  one-more (s ∷ ss) (suc i) d l e h =
      let n : suc i + 1 ≡ suc (i + 1) = omega arith in
      subst (λ k. script_named (take k (s ∷ ss)) name ≡ None) (sym n) (behind (is s) s (script_named (take i ss) name) (script_named (take (i + 1) ss) name) h (one-more ss i d (omega arith) e))

  first : (scripts : List RawScript) (i : ℕ) (d : RawScript) → i < length scripts → is (get_or scripts i d) ≡ true → script_named (take i scripts) name ≡ None → Some (get_or scripts i d) ≡ script_named scripts name
  first [] i d l e h = absurd (omega arith)
  first (s ∷ ss) zero d l e h = sym (ap (λ b. cond b (Some s) (script_named ss name)) e)
  first (s ∷ ss) (suc i) d l e h = passing (is s) s (script_named (take i ss) name) (script_named ss name) (Some (get_or ss i d)) h (first ss i d (omega arith) e)

-- ---- as a loop over them has it
pub passed : (scripts : List RawScript) (i : ℕ) (s : RawScript) (name : List ℕ) (b : Bool) → i < length scripts → s ≡ get_or scripts i s → b ≡ bytes_eq name (name_text s.name) → b ≡ false
    → script_named (take i scripts) name ≡ None → script_named (take (i + 1) scripts) name ≡ None
passed scripts i s name b l e k f h = one-more name scripts i s l (ap (λ x. bytes_eq name (name_text x.name)) (sym e) ∙ (sym k ∙ f)) h

pub hit : (scripts : List RawScript) (i : ℕ) (s : RawScript) (name : List ℕ) (b : Bool) → i < length scripts → s ≡ get_or scripts i s → b ≡ bytes_eq name (name_text s.name) → b ≡ true
    → script_named (take i scripts) name ≡ None → Some s ≡ script_named scripts name
hit scripts i s name b l e k f h = ap Some e ∙ first name scripts i s l (ap (λ x. bytes_eq name (name_text x.name)) (sym e) ∙ (sym k ∙ f)) h

pub none : (scripts : List RawScript) (i : ℕ) (name : List ℕ) → length scripts ≤ i → script_named (take i scripts) name ≡ None → None ≡ script_named scripts name
none scripts i name l h = sym h ∙ ap (λ ss. script_named ss name) (take_all i scripts l)
