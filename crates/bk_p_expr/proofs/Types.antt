-- Types, by what stands in front.
use Rattle.std.specs.Prelude.{◌≡◌, ◌≢◌, ℕ, zero, suc, ◌≤◌, false, cond, nat_eq, List, [], ◌∷◌, length, Option, None, Some, Result, Ok, Err, IfOk, MatchOption, refl}
use Rattle.std.proofs.Common.{arith, ap, ◌∙◌}
use Rattle.std.proofs.lemmas.Bool.{eqb-true}
use Rattle.bk_form.specs.declared.token.Token.{Token}
use Rattle.bk_form.specs.declared.token.TokenKind.{TokenKind}
use Rattle.bk_form.specs.declared.token.TokenKind.TheVariants.{Name, LevelName, BoundName, Number, Sign, Word}
use Rattle.bk_ops.specs.declared.sign.TheConstants.{OPEN_PAREN, CLOSE_PAREN, TIMES}
use Rattle.bk_ops.specs.declared.word.TheConstants.{BOOL, INTEGER, POW}
use Rattle.bk_raw.specs.Trees.WrittenType.{WrittenType, written_integer, written_bool, written_set, written_power, written_product}
use Rattle.bk_raw.specs.Grammar.Reading.{next, sign, typed}
use Rattle.bk_p_expr.specs.PrintedTypes.{power, product}
use Rattle.bk_p_expr.proofs.Choices.{next_found, next_fails}
use Rattle.bk_p_expr.proofs.Written.{not_true}

-- what is read where the first token is of this kind, with fuel for the types inside
abbrev pub type_by : ℕ → TokenKind → List Token → Option (WrittenType × List Token)
type_by m (Name x) ts = Some (written_set x, ts)
type_by m (Word op) ts = cond (nat_eq op INTEGER) (Some (written_integer, ts)) (cond (nat_eq op BOOL) (Some (written_bool, ts)) (cond (nat_eq op POW) (power m ts) None))
type_by m (Sign op) ts = cond (nat_eq op OPEN_PAREN) (product m ts) None
type_by m _ ts = None

pub typed_empty_list : (m : ℕ) (ts : List Token) → ts ≡ [] → typed m ts ≡ None
typed_empty_list zero ts e = refl
typed_empty_list (suc m) ts e = λ i. typed (suc m) (e i)

typed_cons : (m : ℕ) (t : Token) (ts : List Token) → typed (suc m) (t ∷ ts) ≡ type_by m t.kind ts
typed_cons m t ts = refl

pub typed_front : (m : ℕ) (ts : List Token) (t : Token) (us : List Token) (found : Option (WrittenType × List Token)) → ts ≡ t ∷ us → length ts ≤ m → ((k : ℕ) → length us ≤ k → type_by k t.kind us ≡ found) → typed m ts ≡ found
typed_front zero ts t us found e l h = absurd (omega (arith, ap length e, l))
typed_front (suc m) ts t us found e l h = (λ i. typed (suc m) (e i)) ∙ typed_cons m t us ∙ h m (omega (arith, ap length e, l))

-- ---- (T) behind POW
pub power_none : (ts : List Token) (m : ℕ) → sign OPEN_PAREN ts ≡ None → power m ts ≡ None
power_none ts m a = λ i. next (next (a i) (λ _ us. next (typed m us) (λ x vs. next (sign CLOSE_PAREN vs) (λ _ ws. Some (x, ws))))) (λ t us. Some (written_power t, us))

power_read : (m : ℕ) (ts : List Token) (t : Token) (us : List Token) → sign OPEN_PAREN ts ≡ Some (t, us) → power m ts ≡ next (next (typed m us) (λ x vs. next (sign CLOSE_PAREN vs) (λ _ ws. Some (x, ws)))) (λ t us. Some (written_power t, us))
power_read m ts t us a = λ i. next (next (a i) (λ _ us. next (typed m us) (λ x vs. next (sign CLOSE_PAREN vs) (λ _ ws. Some (x, ws))))) (λ t us. Some (written_power t, us))

pub power_none_inside : (ts : List Token) (m : ℕ) (t : Token) (us : List Token) → sign OPEN_PAREN ts ≡ Some (t, us) → typed m us ≡ None → power m ts ≡ None
power_none_inside ts m t us a b = power_read m ts t us a ∙ (λ i. next (next (b i) (λ x vs. next (sign CLOSE_PAREN vs) (λ _ ws. Some (x, ws)))) (λ t us. Some (written_power t, us)))

power_more : (m : ℕ) (ts : List Token) (t : Token) (us : List Token) (x : WrittenType) (vs : List Token) → sign OPEN_PAREN ts ≡ Some (t, us) → typed m us ≡ Some (x, vs) → power m ts ≡ next (next (sign CLOSE_PAREN vs) (λ _ ws. Some (x, ws))) (λ t us. Some (written_power t, us))
power_more m ts t us x vs a b = power_read m ts t us a ∙ (λ i. next (next (b i) (λ x vs. next (sign CLOSE_PAREN vs) (λ _ ws. Some (x, ws)))) (λ t us. Some (written_power t, us)))

pub power_none_last : (ts : List Token) (m : ℕ) (t : Token) (us : List Token) (x : WrittenType) (vs : List Token) → sign OPEN_PAREN ts ≡ Some (t, us) → typed m us ≡ Some (x, vs) → sign CLOSE_PAREN vs ≡ None → power m ts ≡ None
power_none_last ts m t us x vs a b z = power_more m ts t us x vs a b ∙ (λ i. next (next (z i) (λ _ ws. Some (x, ws))) (λ t us. Some (written_power t, us)))

pub power_some : (ts : List Token) (m : ℕ) (t : Token) (us : List Token) (x : WrittenType) (vs : List Token) (u : Token) (ws : List Token) → sign OPEN_PAREN ts ≡ Some (t, us) → typed m us ≡ Some (x, vs) → sign CLOSE_PAREN vs ≡ Some (u, ws) → power m ts ≡ Some (written_power x, ws)
power_some ts m t us x vs u ws a b z = power_more m ts t us x vs a b ∙ (λ i. next (next (z i) (λ _ ws. Some (x, ws))) (λ t us. Some (written_power t, us)))

-- ---- T * U) behind a parenthesis
pub product_none : (ts : List Token) (m : ℕ) → typed m ts ≡ None → product m ts ≡ None
product_none ts m a = next_fails (typed m ts) (λ t us. next (sign TIMES us) (λ _ vs. next (typed m vs) (λ u ws. next (sign CLOSE_PAREN ws) (λ _ xs. Some (written_product t u, xs))))) a

product_read : (m : ℕ) (ts : List Token) (x : WrittenType) (us : List Token) → typed m ts ≡ Some (x, us) → product m ts ≡ next (sign TIMES us) (λ _ vs. next (typed m vs) (λ u ws. next (sign CLOSE_PAREN ws) (λ _ xs. Some (written_product x u, xs))))
product_read m ts x us a = next_found (typed m ts) x us (λ t us. next (sign TIMES us) (λ _ vs. next (typed m vs) (λ u ws. next (sign CLOSE_PAREN ws) (λ _ xs. Some (written_product t u, xs))))) a

pub product_none_times : (ts : List Token) (m : ℕ) (x : WrittenType) (us : List Token) → typed m ts ≡ Some (x, us) → sign TIMES us ≡ None → product m ts ≡ None
product_none_times ts m x us a b = product_read m ts x us a ∙ next_fails (sign TIMES us) (λ _ vs. next (typed m vs) (λ u ws. next (sign CLOSE_PAREN ws) (λ _ xs. Some (written_product x u, xs)))) b

product_more : (m : ℕ) (ts : List Token) (x : WrittenType) (us : List Token) (t : Token) (vs : List Token) → typed m ts ≡ Some (x, us) → sign TIMES us ≡ Some (t, vs) → product m ts ≡ next (typed m vs) (λ u ws. next (sign CLOSE_PAREN ws) (λ _ xs. Some (written_product x u, xs)))
product_more m ts x us t vs a b = product_read m ts x us a ∙ next_found (sign TIMES us) t vs (λ _ vs. next (typed m vs) (λ u ws. next (sign CLOSE_PAREN ws) (λ _ xs. Some (written_product x u, xs)))) b

pub product_none_right : (ts : List Token) (m : ℕ) (x : WrittenType) (us : List Token) (t : Token) (vs : List Token) → typed m ts ≡ Some (x, us) → sign TIMES us ≡ Some (t, vs) → typed m vs ≡ None → product m ts ≡ None
product_none_right ts m x us t vs a b c = product_more m ts x us t vs a b ∙ next_fails (typed m vs) (λ u ws. next (sign CLOSE_PAREN ws) (λ _ xs. Some (written_product x u, xs))) c

pub product_none_last : (ts : List Token) (m : ℕ) (x : WrittenType) (us : List Token) (t : Token) (vs : List Token) (y : WrittenType) (ws : List Token) → typed m ts ≡ Some (x, us) → sign TIMES us ≡ Some (t, vs) → typed m vs ≡ Some (y, ws) → sign CLOSE_PAREN ws ≡ None → product m ts ≡ None
product_none_last ts m x us t vs y ws a b c z = product_more m ts x us t vs a b ∙ next_found (typed m vs) y ws (λ u ws. next (sign CLOSE_PAREN ws) (λ _ xs. Some (written_product x u, xs))) c ∙ next_fails (sign CLOSE_PAREN ws) (λ _ xs. Some (written_product x y, xs)) z

pub product_some : (ts : List Token) (m : ℕ) (x : WrittenType) (us : List Token) (t : Token) (vs : List Token) (y : WrittenType) (ws : List Token) (u : Token) (xs : List Token) → typed m ts ≡ Some (x, us) → sign TIMES us ≡ Some (t, vs) → typed m vs ≡ Some (y, ws) → sign CLOSE_PAREN ws ≡ Some (u, xs) → product m ts ≡ Some (written_product x y, xs)
product_some ts m x us t vs y ws u xs a b c z = product_more m ts x us t vs a b ∙ next_found (typed m vs) y ws (λ u ws. next (sign CLOSE_PAREN ws) (λ _ xs. Some (written_product x u, xs))) c ∙ next_found (sign CLOSE_PAREN ws) u xs (λ _ xs. Some (written_product x y, xs)) z

-- ---- what begins with a name or another word
pub typed_set : (m : ℕ) (ts : List Token) (t : Token) (us : List Token) (x : List ℕ) → ts ≡ t ∷ us → t.kind ≡ Name x → length ts ≤ m → typed m ts ≡ Some (written_set x, us)
typed_set m ts t us x e k l = typed_front m ts t us (Some (written_set x, us)) e l (λ j r. (λ i. type_by j (k i) us))

pub typed_integer : (m : ℕ) (ts : List Token) (t : Token) (us : List Token) (op : ℕ) → ts ≡ t ∷ us → t.kind ≡ Word op → op ≡ INTEGER → length ts ≤ m → typed m ts ≡ Some (written_integer, us)
typed_integer m ts t us op e k q l = typed_front m ts t us (Some (written_integer, us)) e l (λ j r. (λ i. type_by j (k i) us) ∙ (λ i. type_by j (Word (q i)) us))

pub typed_bool : (m : ℕ) (ts : List Token) (t : Token) (us : List Token) (op : ℕ) → ts ≡ t ∷ us → t.kind ≡ Word op → op ≡ BOOL → length ts ≤ m → typed m ts ≡ Some (written_bool, us)
typed_bool m ts t us op e k q l = typed_front m ts t us (Some (written_bool, us)) e l (λ j r. (λ i. type_by j (k i) us) ∙ (λ i. type_by j (Word (q i)) us))

-- ---- the same answer by another name
pub pow_is : (m : ℕ) (ts : List Token) (t : Token) (us : List Token) (op : ℕ) → ts ≡ t ∷ us → t.kind ≡ Word op → op ≡ POW → length ts ≤ m → (k : ℕ) × (length us ≤ k) × (typed m ts ≡ power k us)
pow_is zero ts t us op e k q l = absurd (omega (arith, ap length e, l))
pow_is (suc m) ts t us op e k q l = (m, omega (arith, ap length e, l), (λ i. typed (suc m) (e i)) ∙ typed_cons m t us ∙ (λ i. type_by m (k i) us) ∙ (λ i. type_by m (Word (q i)) us))

pub paren_is : (m : ℕ) (ts : List Token) (t : Token) (us : List Token) (op : ℕ) → ts ≡ t ∷ us → t.kind ≡ Sign op → op ≡ OPEN_PAREN → length ts ≤ m → (k : ℕ) × (length us ≤ k) × (typed m ts ≡ product k us)
paren_is zero ts t us op e k q l = absurd (omega (arith, ap length e, l))
paren_is (suc m) ts t us op e k q l = (m, omega (arith, ap length e, l), (λ i. typed (suc m) (e i)) ∙ typed_cons m t us ∙ (λ i. type_by m (k i) us) ∙ (λ i. type_by m (Sign (q i)) us))

pub types_same : {A E : Type 0} (ts us : List Token) (f : ℕ → Option (WrittenType × List Token)) (ty : A → WrittenType) (rest : A → List Token) (r : Result (Option A) E) → ((m : ℕ) → length ts ≤ m → (k : ℕ) × (length us ≤ k) × (typed m ts ≡ f k)) → IfOk r (λ o. MatchOption o ((m : ℕ) → length us ≤ m → f m ≡ None) (λ p. (m : ℕ) → length us ≤ m → f m ≡ Some (ty p, rest p))) → IfOk r (λ o. MatchOption o ((m : ℕ) → length ts ≤ m → typed m ts ≡ None) (λ p. (m : ℕ) → length ts ≤ m → typed m ts ≡ Some (ty p, rest p)))
types_same ts us f ty rest (Err e) h k = tt
types_same ts us f ty rest (Ok None) h k = λ m l. let s : (j : ℕ) × (length us ≤ j) × (typed m ts ≡ f j) = h m l in s.2 ∙ k s.0 s.1
types_same ts us f ty rest (Ok (Some p)) h k = λ m l. let s : (j : ℕ) × (length us ≤ j) × (typed m ts ≡ f j) = h m l in s.2 ∙ k s.0 s.1

-- ---- what begins with anything else
not_equal : (a b : ℕ) → (a ≡ b → ⊥) → nat_eq a b ≡ false
not_equal a b h = not_true (nat_eq a b) (λ e. h (eqb-true a b e))

pub typed_none_word : (m : ℕ) (ts : List Token) (t : Token) (us : List Token) (op : ℕ) → ts ≡ t ∷ us → t.kind ≡ Word op → op ≢ INTEGER → op ≢ BOOL → op ≢ POW → length ts ≤ m → typed m ts ≡ None
typed_none_word m ts t us op e k a b c l = typed_front m ts t us None e l (λ j r. (λ i. type_by j (k i) us) ∙ (λ i. cond (not_equal op INTEGER a i) (Some (written_integer, us)) (cond (not_equal op BOOL b i) (Some (written_bool, us)) (cond (not_equal op POW c i) (power j us) None))))

pub typed_none_sign : (m : ℕ) (ts : List Token) (t : Token) (us : List Token) (op : ℕ) → ts ≡ t ∷ us → t.kind ≡ Sign op → op ≢ OPEN_PAREN → length ts ≤ m → typed m ts ≡ None
typed_none_sign m ts t us op e k a l = typed_front m ts t us None e l (λ j r. (λ i. type_by j (k i) us) ∙ (λ i. cond (not_equal op OPEN_PAREN a i) (product j us) None))

-- another kind of token
abbrev pub is_no_type : TokenKind → Type 0
is_no_type (LevelName text n) = Unit {0}
is_no_type (BoundName n) = Unit {0}
is_no_type (Number z) = Unit {0}
is_no_type _ = ⊥

kind_by : (j : ℕ) (k : TokenKind) (us : List Token) → is_no_type k → type_by j k us ≡ None
kind_by j (LevelName text n) us h = refl
kind_by j (BoundName n) us h = refl
kind_by j (Number z) us h = refl
kind_by j (Name x) us h = elim h [ ]
kind_by j (Sign op) us h = elim h [ ]
kind_by j (Word op) us h = elim h [ ]

pub typed_none_kind : (m : ℕ) (ts : List Token) (t : Token) (us : List Token) → ts ≡ t ∷ us → is_no_type t.kind → length ts ≤ m → typed m ts ≡ None
typed_none_kind m ts t us e h l = typed_front m ts t us None e l (λ j r. kind_by j t.kind us h)

pub no_type_by : (k : TokenKind) → ((x : List ℕ) → k ≡ Name x → ⊥) → ((op : ℕ) → k ≡ Word op → ⊥) → ((op : ℕ) → k ≡ Sign op → ⊥) → is_no_type k
no_type_by (Name x) a b c = absurd (a x refl)
no_type_by (Word op) a b c = absurd (b op refl)
no_type_by (Sign op) a b c = absurd (c op refl)
no_type_by (LevelName text n) a b c = tt
no_type_by (BoundName n) a b c = tt
no_type_by (Number z) a b c = tt
