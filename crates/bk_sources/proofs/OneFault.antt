-- Files have one fault.
use Rattle.std.specs.Prelude.{◌≡◌, ◌⊎◌, ℕ, zero, suc, ◌<◌, List, [], ◌∷◌, ◌++◌, length, All, refl}
use Rattle.std.specs.Str.{IsUtf8}
use Rattle.std.proofs.Common.{inl, inr, arith, ap, sym, subst, ◌∙◌}
use Rattle.std.proofs.lemmas.List.Elements.{All-head, All-tail, All-weaker}
use Rattle.bk_lex.specs.declared.fault.LexFault.{LexFault}
use Rattle.bk_lex.specs.declared.fault.LexFault.TheVariants.{NotUtf8, BadChar, OpenComment, NumberTooWide, Limit as LexLimit, Memory as LexMemory}
use Rattle.bk_lex.specs.Faults.{IsFaultOf as IsLexFaultOf}
use Rattle.bk_lex.specs.Laws.{IsOfText}
use Rattle.bk_lex.proofs.Cutting.{faults_are_one, faults_have_no_tokens}
use Rattle.bk_sources.specs.declared.fault.FileFault.TheVariants.{Fault, Limit, Memory}
use Rattle.bk_sources.specs.Files.{Has, IsFirst, IsCut, IsShallowText, IsNoUtf8, IsNoToken, HasTooMany, IsDeep, IsAtFault, IsPastLimit}
use Rattle.bk_sources.specs.Laws.{FaultsAreOne}
use Rattle.bk_sources.proofs.OneCut.{no_first, not_deep}

-- ---- orders
order_up : (m n : ℕ) → (m < n) ⊎ ((m ≡ n) ⊎ (n < m)) → (suc m < suc n) ⊎ ((suc m ≡ suc n) ⊎ (suc n < suc m))
order_up m n (inl l) = inl (omega (arith, l))
order_up m n (inr (inl e)) = inr (inl (ap suc e))
order_up m n (inr (inr l)) = inr (inr (omega (arith, l)))

pub order : (m n : ℕ) → (m < n) ⊎ ((m ≡ n) ⊎ (n < m))
order zero zero = inr (inl refl)
order zero (suc n) = inl (omega arith)
order (suc m) zero = inr (inr (omega arith))
order (suc m) (suc n) = order_up m n (order m n)

-- ---- lists cut at an item
pub all_in_front : {A : Type 0} (P : A → Type 0) (b : List A) (x : A) (a c : List A) (y : A) (d : List A) → b ++ x ∷ a ≡ c ++ y ∷ d → length b < length c → All P c → P x
all_in_front P [] x a [] y d e l h = absurd (omega (arith, l))
all_in_front P [] x a (z ∷ c) y d e l h =
    let f : z ≡ x = cc in
    subst P f (All-head P z c h)
all_in_front P (w ∷ b) x a [] y d e l h = absurd (omega (arith, l))
all_in_front P (w ∷ b) x a (z ∷ c) y d e l h =
    let f : b ++ x ∷ a ≡ c ++ y ∷ d = cc in
    all_in_front P b x a c y d f (omega (arith, l)) (All-tail P z c h)

pub same_cut : {A : Type 0} (b : List A) (x : A) (a c : List A) (y : A) (d : List A) → b ++ x ∷ a ≡ c ++ y ∷ d → length b ≡ length c → (b ≡ c) × (x ≡ y)
same_cut [] x a [] y d e l =
    let f : x ≡ y = cc in
    (refl, f)
same_cut [] x a (z ∷ c) y d e l = absurd (omega (arith, l))
same_cut (w ∷ b) x a [] y d e l = absurd (omega (arith, l))
same_cut (w ∷ b) x a (z ∷ c) y d e l =
    let f : b ++ x ∷ a ≡ c ++ y ∷ d = cc in
    let g : w ≡ z = cc in
    let r = same_cut b x a c y d f (omega (arith, l)) in
    ((λ i. g i ∷ r.0 i), r.1)

pub front_in : {A : Type 0} (b : List A) (x : A) (a c : List A) (y : A) (d : List A) → b ++ x ∷ a ≡ c ++ y ∷ d → length b < length c → (m : List A) × (c ≡ b ++ x ∷ m)
front_in [] x a [] y d e l = absurd (omega (arith, l))
front_in [] x a (z ∷ c) y d e l =
    let f : z ≡ x = cc in
    (c, λ i. f i ∷ c)
front_in (w ∷ b) x a [] y d e l = absurd (omega (arith, l))
front_in (w ∷ b) x a (z ∷ c) y d e l =
    let f : b ++ x ∷ a ≡ c ++ y ∷ d = cc in
    let g : z ≡ w = cc in
    let r = front_in b x a c y d f (omega (arith, l)) in
    (r.0, λ i. g i ∷ r.1 i)

-- ---- two firsts
-- they stand at one place, and one item is at fault in both ways
pub record Both {A : Type 0} (Bad Ill : A → Type 0) (p q : ℕ) : Type 0 where
  pub same : p ≡ q
  pub item : A
  pub bad : Bad item
  pub ill : Ill item

pub both_first : {A : Type 0} (Fine Bad Ill : A → Type 0) (items : List A) (p q : ℕ) → ((x : A) → Bad x → Fine x → ⊥) → ((x : A) → Ill x → Fine x → ⊥) → IsFirst Fine Bad items p → IsFirst Fine Ill items q → Both Bad Ill p q
both_first Fine Bad Ill items p q not_bad not_ill f g = by_order (order (length f.before) (length g.before))
  where
    cut : f.before ++ f.item ∷ f.after ≡ g.before ++ g.item ∷ g.after
    cut = sym f.splits ∙ g.splits

    by_order : (length f.before < length g.before) ⊎ ((length f.before ≡ length g.before) ⊎ (length g.before < length f.before)) → Both Bad Ill p q
    by_order (inl l) = absurd (not_bad f.item f.faulty (all_in_front Fine f.before f.item f.after g.before g.item g.after cut l g.fine))
    by_order (inr (inl e)) = record {
      same = sym f.counted ∙ e ∙ g.counted;
      item = g.item;
      bad = subst Bad (same_cut f.before f.item f.after g.before g.item g.after cut e).1 f.faulty;
      ill = g.faulty;
    }
    by_order (inr (inr l)) = absurd (not_ill g.item g.faulty (all_in_front Fine g.before g.item g.after f.before f.item f.after (sym cut) l f.fine))

-- ---- what is at fault is not fine
lex_not_cut : (text : List ℕ) (fault : LexFault) → IsLexFaultOf text fault → IsOfText fault → Has IsCut text → ⊥
lex_not_cut text fault h o p = faults_have_no_tokens text fault p.0 h o p.1.cut p.1.few

token_not_cut : (place : ℕ) (text : List ℕ) → IsNoToken place text → Has IsCut text → ⊥
token_not_cut place text (inl h) p = lex_not_cut text (BadChar place) h tt p
token_not_cut place text (inr (inl h)) p = lex_not_cut text (OpenComment place) h tt p
token_not_cut place text (inr (inr h)) p = lex_not_cut text (NumberTooWide place) h tt p

many_not_cut : (text : List ℕ) → HasTooMany text → Has IsCut text → ⊥
many_not_cut text h p = lex_not_cut text (LexLimit h.0) h.1 tt p

utf8_not : (texts : List (List ℕ)) (file place : ℕ) → IsFirst IsUtf8 (IsNoUtf8 place) texts file → All IsUtf8 texts → ⊥
utf8_not texts file place f u = no_first IsUtf8 IsUtf8 (IsNoUtf8 place) texts file u (λ text h n. n.0 h) f

token_not : (texts : List (List ℕ)) (file place : ℕ) → IsFirst (Has IsCut) (IsNoToken place) texts file → All (Has IsCut) texts → ⊥
token_not texts file place f c = no_first (Has IsCut) (Has IsCut) (IsNoToken place) texts file c (λ text p h. token_not_cut place text h p) f

many_not : (texts : List (List ℕ)) (file : ℕ) → IsFirst (Has IsCut) HasTooMany texts file → All (Has IsCut) texts → ⊥
many_not texts file f c = no_first (Has IsCut) (Has IsCut) HasTooMany texts file c (λ text p h. many_not_cut text h p) f

cut_utf8 : (texts : List (List ℕ)) → All (Has IsCut) texts → All IsUtf8 texts
cut_utf8 texts c = All-weaker (Has IsCut) IsUtf8 (λ text p. p.1.cut.0) texts c

-- ---- one fault of one text
pub record OfTokens (place : ℕ) (text : List ℕ) : Type 0 where
  pub fault : LexFault
  pub stands : IsLexFaultOf text fault
  pub of_text : IsOfText fault
  pub other : (n : ℕ) → fault ≡ LexLimit n → ⊥
  pub at : (fault ≡ BadChar place) ⊎ ((fault ≡ OpenComment place) ⊎ (fault ≡ NumberTooWide place))

of_tokens : (place : ℕ) (text : List ℕ) → IsNoToken place text → OfTokens place text
of_tokens place text (inl h) = record { fault = BadChar place; stands = h; of_text = tt; other = λ n e. cc; at = inl refl }
of_tokens place text (inr (inl h)) = record { fault = OpenComment place; stands = h; of_text = tt; other = λ n e. cc; at = inr (inl refl) }
of_tokens place text (inr (inr h)) = record { fault = NumberTooWide place; stands = h; of_text = tt; other = λ n e. cc; at = inr (inr refl) }

abbrev place_of : LexFault → ℕ
place_of (NotUtf8 place) = place
place_of (BadChar place) = place
place_of (OpenComment place) = place
place_of (NumberTooWide place) = place
place_of (LexLimit place) = place
place_of LexMemory = 0

placed : (place : ℕ) (fault : LexFault) → (fault ≡ BadChar place) ⊎ ((fault ≡ OpenComment place) ⊎ (fault ≡ NumberTooWide place)) → place_of fault ≡ place
placed place fault (inl e) = ap place_of e
placed place fault (inr (inl e)) = ap place_of e
placed place fault (inr (inr e)) = ap place_of e

utf8_one : (text : List ℕ) (p q : ℕ) → IsNoUtf8 p text → IsNoUtf8 q text → p ≡ q
utf8_one text p q b c = ap place_of (faults_are_one text (NotUtf8 p) (NotUtf8 q) b tt c tt)

token_one : (text : List ℕ) (p q : ℕ) → IsNoToken p text → IsNoToken q text → p ≡ q
token_one text p q b c =
    let f = of_tokens p text b in
    let g = of_tokens q text c in
    sym (placed p f.fault f.at) ∙ ap place_of (faults_are_one text f.fault g.fault f.stands f.of_text g.stands g.of_text) ∙ placed q g.fault g.at

token_few : (text : List ℕ) (p : ℕ) → IsNoToken p text → HasTooMany text → ⊥
token_few text p b c =
    let f = of_tokens p text b in
    f.other c.0 (faults_are_one text f.fault (LexLimit c.0) f.stands f.of_text c.1 tt)

-- ---- one fault of all texts
abbrev utf8_both : (texts : List (List ℕ)) (f g p q : ℕ) → IsFirst IsUtf8 (IsNoUtf8 p) texts f → IsFirst IsUtf8 (IsNoUtf8 q) texts g → Both (IsNoUtf8 p) (IsNoUtf8 q) f g
utf8_both texts f g p q h k = both_first IsUtf8 (IsNoUtf8 p) (IsNoUtf8 q) texts f g (λ text n u. n.0 u) (λ text n u. n.0 u) h k

abbrev token_both : (texts : List (List ℕ)) (f g p q : ℕ) → IsFirst (Has IsCut) (IsNoToken p) texts f → IsFirst (Has IsCut) (IsNoToken q) texts g → Both (IsNoToken p) (IsNoToken q) f g
token_both texts f g p q h k = both_first (Has IsCut) (IsNoToken p) (IsNoToken q) texts f g (token_not_cut p) (token_not_cut q) h k

-- no text is at fault and passes a limit in one
tokens_apart : (texts : List (List ℕ)) (f g p : ℕ) → IsFirst (Has IsCut) (IsNoToken p) texts f → IsFirst (Has IsCut) HasTooMany texts g → ⊥
tokens_apart texts f g p h k =
    let b = both_first (Has IsCut) (IsNoToken p) HasTooMany texts f g (token_not_cut p) many_not_cut h k in
    token_few b.item p b.bad b.ill

apart : (texts : List (List ℕ)) (m f p n g : ℕ) → IsAtFault texts m f p → IsPastLimit texts n g → ⊥
apart texts m f p n g (inl h) (inl k) = utf8_not texts f p h.1 k.1
apart texts m f p n g (inl h) (inr k) = utf8_not texts f p h.1 (cut_utf8 texts k.1)
apart texts m f p n g (inr h) (inl k) = tokens_apart texts f g p h.2 k.2
apart texts m f p n g (inr h) (inr k) = token_not texts f p h.2 k.1

one_at_fault : (texts : List (List ℕ)) (m f p n g q : ℕ) → IsAtFault texts m f p → IsAtFault texts n g q → Fault m f p ≡ Fault n g q
one_at_fault texts m f p n g q (inl h) (inl k) =
    let b = utf8_both texts f g p q h.1 k.1 in
    let i : m ≡ n = h.0 ∙ sym k.0 in
    let j : p ≡ q = utf8_one b.item p q b.bad b.ill in
    λ t. Fault (i t) (b.same t) (j t)
one_at_fault texts m f p n g q (inl h) (inr k) = absurd (utf8_not texts f p h.1 k.1)
one_at_fault texts m f p n g q (inr h) (inl k) = absurd (utf8_not texts g q k.1 h.1)
one_at_fault texts m f p n g q (inr h) (inr k) =
    let b = token_both texts f g p q h.2 k.2 in
    let i : m ≡ n = h.0 ∙ sym k.0 in
    let j : p ≡ q = token_one b.item p q b.bad b.ill in
    λ t. Fault (i t) (b.same t) (j t)

one_limit : (texts : List (List ℕ)) (m f n g : ℕ) → IsPastLimit texts m f → IsPastLimit texts n g → Limit m f ≡ Limit n g
one_limit texts m f n g (inl h) (inl k) =
    let b = both_first (Has IsCut) HasTooMany HasTooMany texts f g many_not_cut many_not_cut h.2 k.2 in
    let i : m ≡ n = h.0 ∙ sym k.0 in
    λ t. Limit (i t) (b.same t)
one_limit texts m f n g (inl h) (inr k) = absurd (many_not texts f h.2 k.1)
one_limit texts m f n g (inr h) (inl k) = absurd (many_not texts g k.2 h.1)
one_limit texts m f n g (inr h) (inr k) =
    let b = both_first (Has IsShallowText) IsDeep IsDeep texts f g (λ text d s. not_deep text s d) (λ text d s. not_deep text s d) h.2 k.2 in
    let i : m ≡ n = h.0 ∙ sym k.0 in
    λ t. Limit (i t) (b.same t)

pub faults_are_one_of : FaultsAreOne
faults_are_one_of texts (Fault m f p) (Fault n g q) h o k r = one_at_fault texts m f p n g q h k
faults_are_one_of texts (Fault m f p) (Limit n g) h o k r = absurd (apart texts m f p n g h k)
faults_are_one_of texts (Fault m f p) Memory h o k r = absurd r
faults_are_one_of texts (Limit m f) (Fault n g q) h o k r = absurd (apart texts n g q m f k h)
faults_are_one_of texts (Limit m f) (Limit n g) h o k r = one_limit texts m f n g h k
faults_are_one_of texts (Limit m f) Memory h o k r = absurd r
faults_are_one_of texts Memory other h o k r = absurd o
