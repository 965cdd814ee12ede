-- A chain of terms behind a divider is the same for all fuel that is enough.
use Rattle.std.specs.Prelude.{◌≡◌, ℕ, zero, suc, ◌≤◌, Bool, true, false, cond, List, [], ◌∷◌, ◌++◌, length, Option, None, Some, refl}
use Rattle.std.proofs.Common.{arith, sym, ap, ◌∙◌, length-append}
use Rattle.bk_form.specs.declared.token.Token.{Token}
use Rattle.bk_ops.specs.declared.sign.TheConstants.{COMMA, CLOSE_PAREN}
use Rattle.bk_raw.specs.Trees.RawTree.{RawTree, raw, RawTreeNode, raw_pair}
use Rattle.bk_raw.specs.Grammar.Spelling.{Spells}
use Rattle.bk_raw.specs.Grammar.Reading.{next, sign, start, begins_with, chain, arguments, read}
use Rattle.bk_raw.proofs.SoundTerms.{read_spells}

-- what is left is no longer
read_shorter : (n : ℕ) (ts : List Token) (x : RawTree) (us : List Token) → read n 0 ts ≡ Some (x, us) → length us ≤ length ts
read_shorter n ts x us e = let r : (written : List Token) × (ts ≡ written ++ us) × Spells x written = read_spells n ts x us e in omega (arith, ap length r.1, length-append r.0 us)

chain_by : (m k n op : ℕ) (make : RawTree → RawTree → RawTreeNode) (at : ℕ) (left : RawTree) (t : Token) (us : List Token) (b : Bool) (d : Option (RawTree × List Token)) (r : Option (RawTree × List Token)) → read n 0 us ≡ r → ((x : RawTree) (vs : List Token) → length vs ≤ length us → chain m (read n) op make at (raw at (make left x)) vs ≡ chain k (read n) op make at (raw at (make left x)) vs) → cond b (next (cond b (Some (t, us)) None) (λ _ us. next (read n 0 us) (λ right vs. chain m (read n) op make at (raw at (make left right)) vs))) d ≡ cond b (next (cond b (Some (t, us)) None) (λ _ us. next (read n 0 us) (λ right vs. chain k (read n) op make at (raw at (make left right)) vs))) d
chain_by m k n op make at left t us false d r e h = refl
chain_by m k n op make at left t us true d None e h = (λ i. next (e i) (λ right vs. chain m (read n) op make at (raw at (make left right)) vs)) ∙ sym (λ i. next (e i) (λ right vs. chain k (read n) op make at (raw at (make left right)) vs))
chain_by m k n op make at left t us true d (Some p) e h = (λ i. next (e i) (λ right vs. chain m (read n) op make at (raw at (make left right)) vs)) ∙ h p.0 p.1 (read_shorter n us p.0 p.1 e) ∙ sym (λ i. next (e i) (λ right vs. chain k (read n) op make at (raw at (make left right)) vs))

chain_empty : (m n op : ℕ) (make : RawTree → RawTree → RawTreeNode) (at : ℕ) (left : RawTree) → chain m (read n) op make at left [] ≡ Some (left, [])
chain_empty zero n op make at left = refl
chain_empty (suc m) n op make at left = refl

chain_fuel : (m k n op : ℕ) (make : RawTree → RawTree → RawTreeNode) (at : ℕ) (left : RawTree) (ts : List Token) → length ts ≤ m → length ts ≤ k → chain m (read n) op make at left ts ≡ chain k (read n) op make at left ts
chain_fuel m k n op make at left [] l r = chain_empty m n op make at left ∙ sym (chain_empty k n op make at left)
chain_fuel zero k n op make at left (t ∷ us) l r = absurd (omega (arith, l))
chain_fuel (suc m) zero n op make at left (t ∷ us) l r = absurd (omega (arith, r))
chain_fuel (suc m) (suc k) n op make at left (t ∷ us) l r = chain_by m k n op make at left t us (begins_with op (t ∷ us)) (Some (left, t ∷ us)) (read n 0 us) refl (λ x vs q. chain_fuel m k n op make at (raw at (make left x)) vs (omega (arith, l, q)) (omega (arith, r, q)))

arguments_by : (m n : ℕ) (ts : List Token) (r : Option (RawTree × List Token)) → read n 0 ts ≡ r → length ts ≤ m → length ts ≤ n → arguments m (read n) ts ≡ arguments n (read n) ts
arguments_by m n ts None e l q = (λ i. next (e i) (λ first us. next (chain m (read n) COMMA raw_pair (start ts) first us) (λ x vs. next (sign CLOSE_PAREN vs) (λ _ ws. Some (x, ws))))) ∙ sym (λ i. next (e i) (λ first us. next (chain n (read n) COMMA raw_pair (start ts) first us) (λ x vs. next (sign CLOSE_PAREN vs) (λ _ ws. Some (x, ws)))))
arguments_by m n ts (Some p) e l q =
    let s : length p.1 ≤ length ts = read_shorter n ts p.0 p.1 e in
    (λ i. next (e i) (λ first us. next (chain m (read n) COMMA raw_pair (start ts) first us) (λ x vs. next (sign CLOSE_PAREN vs) (λ _ ws. Some (x, ws))))) ∙
    (λ i. next (chain_fuel m n n COMMA raw_pair (start ts) p.0 p.1 (omega (arith, s, l)) (omega (arith, s, q)) i) (λ x vs. next (sign CLOSE_PAREN vs) (λ _ ws. Some (x, ws)))) ∙
    sym (λ i. next (e i) (λ first us. next (chain n (read n) COMMA raw_pair (start ts) first us) (λ x vs. next (sign CLOSE_PAREN vs) (λ _ ws. Some (x, ws)))))

pub arguments_fuel : (m n : ℕ) (ts : List Token) → length ts ≤ m → length ts ≤ n → arguments m (read n) ts ≡ arguments n (read n) ts
arguments_fuel m n ts l q = arguments_by m n ts (read n 0 ts) refl l q
