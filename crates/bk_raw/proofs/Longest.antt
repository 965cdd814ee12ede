-- A term is read as far as it is written, or further.
use Rattle.std.specs.Prelude.{◌≡◌, ℕ, zero, suc, ◌+◌, ◌≤◌, ℤ, pos, List, [], ◌∷◌, ◌++◌, length, None, Some, refl}
use Rattle.std.proofs.Common.{arith, inl, inr, sym, ◌∙◌, ap, length-append}
use Rattle.bk_form.specs.declared.token.Token.{Token}
use Rattle.bk_form.specs.declared.token.TokenKind.TheVariants.{Sign}
use Rattle.bk_ops.specs.declared.sign.TheConstants.{MINUS}
use Rattle.bk_raw.specs.Trees.Operators.{infix_kind, binding}
use Rattle.bk_raw.specs.declared.operator.InfixOp.{InfixOp}
use Rattle.bk_raw.specs.Grammar.Pieces.{JustSign, ◌⌢◌, Starting}
use Rattle.bk_raw.specs.Trees.RawTree.{RawTree, raw, RawTreeNode, raw_number, raw_negative, raw_infix}
use Rattle.bk_raw.specs.Grammar.Spelling.{Term, Bare, Spells}
use Rattle.bk_raw.specs.Grammar.Reading.{next, start, signed, front_kind, tight, operand, operators_after, read}
use Rattle.bk_raw.proofs.Shapes.{of_kind, led, begun_start, begun_length, lengths}
use Rattle.bk_raw.proofs.Stopping.{none_some, some_same, left_within, joined_gives, postfixed_gives}
use Rattle.bk_raw.proofs.Loops.{operand_is, operator_read}
use Rattle.bk_raw.proofs.Exact.{begins_term, reads}
use Rattle.bk_raw.proofs.SoundTerms.{right_small, StandsUpTo, term_weaker, front_start, joined_term, sound_operand, postfixed_grows, joined_grows, sound_read}

-- of the tokens and what stands behind them, a term is read that takes all the tokens, or more
pub record ReadsOn (n asked : ℕ) (tokens rest : List Token) : Type 0 where
  pub read_is : RawTree × List Token
  pub is : read n asked (tokens ++ rest) ≡ Some read_is
  pub far : length read_is.1 ≤ length rest

shorter : (tokens more rest : List Token) → tokens ≡ more ++ rest → length rest ≤ length tokens
shorter tokens more rest e = omega (arith, ap length e, length-append more rest)

-- behind an operand that takes all the tokens, or more
on_operand : (n asked : ℕ) (tokens rest : List Token) (x : RawTree) (strength : ℕ) (us : List Token) → asked ≤ 10 → operand n (read n) (tokens ++ rest) ≡ Some ((x, strength), us) → length us ≤ length rest → ReadsOn (suc n) asked tokens rest
on_operand n asked tokens rest x strength us l e far =
    let whole = tokens ++ rest in
    let o = sound_operand (read n) (sound_read n) n whole ((x, strength), us) e in
    let g = joined_gives n (read n) asked (start whole) x strength us in
    let here : start o.front.written ≡ start whole = front_start (StandsUpTo x strength) whole us o.front (begins_term x 0 o.front.written (o.front.piece 0 (omega arith))) in
    let more = joined_grows (read n) (sound_read n) n asked (start whole) x strength o.front.written us g.0 o.front.piece here (omega (arith, l, o.strong)) g.1 in
    record {
      read_is = g.0;
      is = ap (λ p. next {A = RawTree × ℕ} p (λ x us. operators_after n (read n) asked (start whole) x.0 x.1 us)) e ∙ g.1;
      far = omega (arith, far, shorter us more.more g.0.1 more.is);
    }

-- what the loop behind a term that binds tightest reads
pub record TightOn (n : ℕ) (tokens rest : List Token) : Type 0 where
  pub read_is : RawTree × List Token
  pub is : tight n (read n) (tokens ++ rest) ≡ Some read_is
  pub far : length read_is.1 ≤ length rest

tight_on : (t : RawTree) (n : ℕ) (tokens rest : List Token) → Term t 11 tokens → length tokens ≤ n + 1 → TightOn n tokens rest
tight_on t n tokens rest p l =
    let v = (reads t).tights n tokens rest p l in
    let g = postfixed_gives v.fuel (read n) (start tokens) t rest in
    let more = postfixed_grows (read n) (sound_read n) v.fuel (start tokens) t tokens rest g.0 p refl g.1 in
    record { read_is = g.0; is = v.is ∙ g.1; far = shorter rest more.more g.0.1 more.is }

on_tight : (t : RawTree) (n asked : ℕ) (tokens rest : List Token) → asked ≤ 10 → Term t 11 tokens → length tokens ≤ n + 1 → ReadsOn (suc n) asked tokens rest
on_tight t n asked tokens rest l p k =
    let v = tight_on t n tokens rest p k in
    on_operand n asked tokens rest v.read_is.0 11 v.read_is.1 l (operand_is n (read n) (tokens ++ rest) v.read_is v.is) v.far

-- a minus sign in front
on_minus : (a : RawTree) (n asked : ℕ) (tokens rest : List Token) → asked ≤ 10 → (JustSign MINUS ⌢ Term a 11) tokens → length tokens ≤ n + 1 → ReadsOn (suc n) asked tokens rest
on_minus a n asked tokens rest l p k =
    let v = led (Sign MINUS) (Term a 11) tokens p in
    let w = tight_on a n v.back rest v.second (omega (arith, ap length v.is, k)) in
    on_operand n asked tokens rest (raw v.token.start (signed (front_kind (v.back ++ rest)) w.read_is.0)) 10 w.read_is.1 l
    (ap (λ ts. operand n (read n) (ts ++ rest)) v.is ∙ ap (λ o. next {A = RawTree} o (λ x vs. Some ((raw v.token.start (signed (front_kind (v.back ++ rest)) x), 10), vs))) w.is)
    w.far

on_number : (z : ℤ) (n at asked : ℕ) (tokens rest : List Token) → asked ≤ 10 → Starting at (Bare (raw_number z) asked) tokens → length tokens ≤ n + 1 → ReadsOn (suc n) asked tokens rest
on_number z n at asked tokens rest l p k = elim p.4 [
  | inl digits ↦ on_tight (raw at (raw_number z)) n asked tokens rest l (inl (p.0, p.1, p.2, p.3, inl digits)) k
  | inr minus ↦
      (let q = minus.2.1 in
      let d = q.4.0 in
      on_minus (raw d.start (raw_number (pos minus.0))) n asked tokens rest l (q.0, q.1, q.2, q.3, inl (d, [], q.4.1, refl, inl (minus.0, refl, q.4))) k)
]

on_negative : (a : RawTree) (n at asked : ℕ) (tokens rest : List Token) → asked ≤ 10 → Starting at (Bare (raw_negative a) asked) tokens → length tokens ≤ n + 1 → ReadsOn (suc n) asked tokens rest
on_negative a n at asked tokens rest l p k = let q = p.4.1 in on_minus a n asked tokens rest l (q.0, q.1, q.2, q.3, q.4.0) k

-- what is said of each term
abbrev GoesOn : RawTree → Type 0
GoesOn t = (n asked : ℕ) (tokens rest : List Token) → asked ≤ 10 → Term t asked tokens → length tokens ≤ n → ReadsOn n asked tokens rest

on_infix : (o : InfixOp) (a b : RawTree) → GoesOn b → (n at asked : ℕ) (tokens rest : List Token) → asked ≤ 10 → Starting at (Bare (raw_infix o a b) asked) tokens → length tokens ≤ n + 1 → ReadsOn (suc n) asked tokens rest
on_infix o a b h n at asked tokens rest l q k =
    let p = q.4.1 in
    let First = Term a (binding o).left in
    let Second = Term b (binding o).right in
    let v = led (infix_kind o) Second p.1 p.4 in
    let size : length tokens ≡ length p.0 + length v.back + 1 = omega (arith, lengths tokens p.0 p.1 p.2, ap length v.is) in
    let w = operator_read o a First Second ((reads a).loops (binding o).left (left_within o)) (begins_term a (binding o).left) n asked tokens rest p v k q.4.0 in
    let right = h n (binding o).right v.back rest (right_small o) v.second (omega (arith, size, k, begun_length p.0 (begins_term a (binding o).left p.0 p.3))) in
    let f = sound_read n (binding o).right (right_small o) (v.back ++ rest) right.read_is right.is in
    let here : start p.0 ≡ start tokens = sym (ap start p.2 ∙ begun_start p.0 p.1 (begins_term a (binding o).left p.0 p.3)) in
    let whole = raw (start tokens) (raw_infix o a right.read_is.0) in
    let before = p.0 ++ (of_kind (infix_kind o) v.token ∷ f.written) in
    let stands : StandsUpTo whole (binding o).own before = joined_term o a right.read_is.0 (start tokens) (binding o).left (of_kind (infix_kind o) v.token) p.0 f.written refl (omega arith) (λ less m. term_weaker a (binding o).left less p.0 m p.3) here f.piece in
    let g = joined_gives w.fuel (read n) asked (start tokens) whole (binding o).own right.read_is.1 in
    let more = joined_grows (read n) (sound_read n) w.fuel asked (start tokens) whole (binding o).own before right.read_is.1 g.0 stands (begun_start p.0 (of_kind (infix_kind o) v.token ∷ f.written) (begins_term a (binding o).left p.0 p.3) ∙ here) q.4.0 g.1 in
    record { read_is = g.0; is = w.goes right.read_is.0 right.read_is.1 right.is ∙ g.1; far = omega (arith, right.far, shorter right.read_is.1 more.more g.0.1 more.is) }

mutual
  goes_on : (t : RawTree) → GoesOn t
  goes_on (raw at node) zero asked tokens rest l p k = absurd (omega (arith, k, begun_length tokens (begins_term (raw at node) asked tokens p)))
  goes_on (raw at node) (suc n) asked tokens rest l p k = elim p [
    | inl q ↦ bare_goes_on node n at asked tokens rest l q (omega (arith, k))
    | inr q ↦ on_tight (raw at node) n asked tokens rest l (inr q) (omega (arith, k))
  ]

  bare_goes_on : (node : RawTreeNode) (n at asked : ℕ) (tokens rest : List Token) → asked ≤ 10 → Starting at (Bare node asked) tokens → length tokens ≤ n + 1 → ReadsOn (suc n) asked tokens rest
  bare_goes_on (raw_number z) n at asked tokens rest l p k = on_number z n at asked tokens rest l p k
  bare_goes_on (raw_negative a) n at asked tokens rest l p k = on_negative a n at asked tokens rest l p k
  bare_goes_on (raw_infix o a b) n at asked tokens rest l p k = on_infix o a b (goes_on b) n at asked tokens rest l p k
  bare_goes_on node n at asked tokens rest l p k = on_tight (raw at node) n asked tokens rest l (inl p) k

-- what is written in front is read, or more
pub reads_on : (n : ℕ) (tree : RawTree) (written after : List Token) → Spells tree written → length written ≤ n → (more : RawTree) × (rest : List Token) × (read n 0 (written ++ after) ≡ Some (more, rest)) × (length rest ≤ length after)
reads_on n tree written after p l = let r = goes_on tree n 0 written after (omega arith) p l in (r.read_is.0, r.read_is.1, r.is, r.far)

-- no term in front takes more tokens than the one that is read
pub read_is_longest : (n : ℕ) (tokens : List Token) (tree : RawTree) (rest : List Token) → length tokens ≤ n → read n 0 tokens ≡ Some (tree, rest) → (other : RawTree) (written after : List Token) → tokens ≡ written ++ after → Spells other written → length rest ≤ length after
read_is_longest n tokens tree rest l e other written after is p =
    let more = reads_on n other written after p (omega (arith, l, ap length is, length-append written after)) in
    let same = some_same (tree, rest) (more.0, more.1) (sym e ∙ ap (read n 0) is ∙ more.2) in
    omega (arith, more.3, ap (λ (q : RawTree × List Token). length q.1) same)

-- where nothing is read, no term is in front
pub nothing_is_spelled : (n : ℕ) (tokens : List Token) → length tokens ≤ n → read n 0 tokens ≡ None → (other : RawTree) (written after : List Token) → tokens ≡ written ++ after → Spells other written → ⊥
nothing_is_spelled n tokens l e other written after is p =
    let more = reads_on n other written after p (omega (arith, l, ap length is, length-append written after)) in
    none_some (more.0, more.1) (sym e ∙ ap (read n 0) is ∙ more.2)
