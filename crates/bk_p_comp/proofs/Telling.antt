-- Tokens without additions, and how the pieces of a list tell it of the whole.
use Rattle.std.specs.Prelude.{◌≡◌, ◌⊎◌, ℕ, zero, suc, Bool, true, false, not, cond, ◌||◌, nat_eq, List, [], ◌∷◌, ◌++◌, Option, None, Some, refl}
use Rattle.std.proofs.Common.{inl, inr, sym, ◌∙◌, ap, subst, append_assoc}
use Rattle.std.proofs.lemmas.Bool.{eqb-true}
use Rattle.bk_form.specs.declared.token.Token.{Token}
use Rattle.bk_form.specs.declared.token.TokenKind.{TokenKind}
use Rattle.bk_form.specs.declared.token.TokenKind.TheVariants.{LevelName, Sign}
use Rattle.bk_ops.specs.declared.sign.TheConstants.{OPEN_PAREN, CLOSE_PAREN, OPEN_BRACKET, CLOSE_BRACKET, OPEN_BRACE, CLOSE_BRACE}
use Rattle.bk_raw.specs.Grammar.Pieces.{Never, Just, JustAt, JustSign, ◌⌢◌, Divided, InParentheses, InBrackets, InBraces, WithParentheses, Starting, Binding, Placed}
use Rattle.bk_raw.proofs.Runs.{run, append-run, split-run, cons-run, first-step}
use Rattle.bk_raw.proofs.Steps.{Piece}
use Rattle.bk_raw.proofs.Stopping.{none_some, some_same}
use Rattle.bk_p_comp.specs.Plain.{is_addition, is_brace, before_addition}

-- at a token: it is no addition, and is a brace or not
abbrev pub plain_kind : Bool → TokenKind → Option Bool
plain_kind b kind = cond (is_addition b kind) None (Some (is_brace kind))

abbrev pub plain_step : Bool → Token → Option Bool
plain_step b t = plain_kind b t.kind

-- whether there are additions in a piece is told by this fact
pub record Tells (A : Piece) (Good : Type 0) : Type 0 where
  pub good : (b : Bool) (ts : List Token) → A ts → Good → run plain_step b ts ≡ Some false
  pub told : (b e : Bool) (ts : List Token) → A ts → run plain_step b ts ≡ Some e → Good

-- ---- one token
one_run : (b e : Bool) (t : Token) (kind : TokenKind) → t.kind ≡ kind → plain_kind b kind ≡ Some e → run plain_step b (t ∷ []) ≡ Some e
one_run b e t kind k h = cons-run plain_step b e e t [] (ap (plain_kind b) k ∙ h) refl

pub one_step : (b e : Bool) (t : Token) (kind : TokenKind) (rest : List Token) → t.kind ≡ kind → run plain_step b (t ∷ rest) ≡ Some e → (m : Bool) × (plain_kind b kind ≡ Some m) × (run plain_step m rest ≡ Some e)
one_step b e t kind rest k h =
    let f = first-step plain_step b e t rest h in
    (f.0, sym (ap (plain_kind b) k) ∙ f.1, f.2)

pub tells_just : (kind : TokenKind) → ((b : Bool) → plain_kind b kind ≡ Some false) → Tells (Just kind) (Unit {0})
tells_just kind k = record {
  good = λ b ts h g. subst (λ us. run plain_step b us ≡ Some false) (sym h.1) (one_run b false h.0 kind h.2 (k b));
  told = λ b e ts h r. tt;
}

pub tells_at : (at : ℕ) (kind : TokenKind) → ((b : Bool) → plain_kind b kind ≡ Some false) → Tells (JustAt at kind) (Unit {0})
tells_at at kind k = record {
  good = λ b ts h g. subst (λ us. run plain_step b us ≡ Some false) (sym h.1) (one_run b false h.0 kind h.2 (k b));
  told = λ b e ts h r. tt;
}

-- an addition
pub tells_printed : (kind : TokenKind) → ((b : Bool) → plain_kind b kind ≡ None) → Tells (Just kind) ⊥
tells_printed kind k = record {
  good = λ b ts h g. absurd g;
  told = λ b e ts h r.
      let s = one_step b e h.0 kind [] h.2 (subst (λ us. run plain_step b us ≡ Some e) h.1 r) in
      none_some s.0 (sym (k b) ∙ s.1);
}

pub tells_level : (x : List ℕ) (n : ℕ) → Tells (Just (LevelName x n)) (n ≡ 0)
tells_level x n = record { good = good; told = told }
  where
    good : (b : Bool) (ts : List Token) → Just (LevelName x n) ts → n ≡ 0 → run plain_step b ts ≡ Some false
    good b ts h g = subst (λ us. run plain_step b us ≡ Some false) (sym h.1) (one_run b false h.0 (LevelName x 0) (h.2 ∙ ap (λ m. LevelName x m) g) (zeroth b))
      where
        zeroth : (b : Bool) → plain_kind b (LevelName x 0) ≡ Some false
        zeroth true = refl
        zeroth false = refl

    zero_by : (b m : Bool) (same : Bool) → nat_eq n 0 ≡ same → plain_kind b (LevelName x n) ≡ Some m → n ≡ 0
    zero_by b m true s h = eqb-true n 0 s
    zero_by true m false s h = absurd (none_some m ((λ i. cond (not (sym s i) || false) None (Some false)) ∙ h))
    zero_by false m false s h = absurd (none_some m ((λ i. cond (not (sym s i) || false) None (Some false)) ∙ h))

    told : (b e : Bool) (ts : List Token) → Just (LevelName x n) ts → run plain_step b ts ≡ Some e → n ≡ 0
    told b e ts h r =
        let s = one_step b e h.0 (LevelName x n) [] h.2 (subst (λ us. run plain_step b us ≡ Some e) h.1 r) in
        zero_by b s.0 (nat_eq n 0) refl s.1

-- ---- put together
pub tells_never : (G : Type 0) → Tells Never G
tells_never G = record { good = λ b ts h g. absurd h; told = λ b e ts h r. absurd h }

pub tells_join : {G H : Type 0} (A B : Piece) → Tells A G → Tells B H → Tells (A ⌢ B) (G × H)
tells_join A B f g = record {
  good = λ b ts h k. subst (λ us. run plain_step b us ≡ Some false) (sym h.2) (append-run plain_step b false false h.0 h.1 (f.good b h.0 h.3 k.0) (g.good false h.1 h.4 k.1));
  told = λ b e ts h r.
      let s = split-run plain_step b e h.0 h.1 (subst (λ us. run plain_step b us ≡ Some e) h.2 r) in
      (f.told b s.0 h.0 h.3 s.1, g.told s.0 e h.1 h.4 s.2);
}

pub tells_same : {G H : Type 0} (A : Piece) → (G → H) → (H → G) → Tells A G → Tells A H
tells_same A to from f = record { good = λ b ts h k. f.good b ts h (from k); told = λ b e ts h r. to (f.told b e ts h r) }

pub tells_or : {G : Type 0} (A B : Piece) → Tells A G → Tells B G → Tells (λ ts. A ts ⊎ B ts) G
tells_or A B f g = record {
  good = λ b ts h k. elim h [ inl p ↦ f.good b ts p k | inr q ↦ g.good b ts q k ];
  told = λ b e ts h r. elim h [ inl p ↦ f.told b e ts p r | inr q ↦ g.told b e ts q r ];
}

-- a piece, a token that may stand behind it, and another piece
pub tells_between : {G H : Type 0} (A B : Piece) (kind : TokenKind) → plain_kind false kind ≡ Some false → Tells A G → Tells B H → Tells (A ⌢ Just kind ⌢ B) (G × H)
tells_between A B kind k f g = record {
  good = λ b ts h q.
      let m = h.4 in
      subst (λ us. run plain_step b us ≡ Some false) (sym h.2) (append-run plain_step b false false h.0 h.1 (f.good b h.0 h.3 q.0)
      (subst (λ us. run plain_step false us ≡ Some false) (sym m.2) (append-run plain_step false false false m.0 m.1 (subst (λ us. run plain_step false us ≡ Some false) (sym m.3.1) (one_run false false m.3.0 kind m.3.2 k)) (g.good false m.1 m.4 q.1))));
  told = λ b e ts h r.
      let m = h.4 in
      let s = split-run plain_step b e h.0 h.1 (subst (λ us. run plain_step b us ≡ Some e) h.2 r) in
      let t = split-run plain_step s.0 e m.0 m.1 (subst (λ us. run plain_step s.0 us ≡ Some e) m.2 s.2) in
      (f.told b s.0 h.0 h.3 s.1, g.told t.0 e m.1 m.4 t.2);
}

-- a token before a piece
pub tells_headed : {G : Type 0} (A : Piece) (kind : TokenKind) → ((b : Bool) → plain_kind b kind ≡ Some false) → Tells A G → Tells (Just kind ⌢ A) G
tells_headed {G} A kind k f = tells_same (Just kind ⌢ A) (λ p. p.1) (λ g. (tt, g)) (tells_join (Just kind) A (tells_just kind k) f)

-- and behind one
pub tells_ended : {G : Type 0} (A : Piece) (kind : TokenKind) → ((b : Bool) → plain_kind b kind ≡ Some false) → Tells A G → Tells (A ⌢ Just kind) G
tells_ended {G} A kind k f = tells_same (A ⌢ Just kind) (λ p. p.0) (λ g. (g, tt)) (tells_join A (Just kind) f (tells_just kind k))

-- a token that is an addition nowhere
pub anywhere : (kind : TokenKind) → plain_kind true kind ≡ Some false → plain_kind false kind ≡ Some false → (b : Bool) → plain_kind b kind ≡ Some false
anywhere kind h k true = h
anywhere kind h k false = k

pub tells_parentheses : {G : Type 0} (A : Piece) → Tells A G → Tells (InParentheses A) G
tells_parentheses A f = tells_headed (A ⌢ JustSign CLOSE_PAREN) (Sign OPEN_PAREN) (anywhere (Sign OPEN_PAREN) refl refl) (tells_ended A (Sign CLOSE_PAREN) (anywhere (Sign CLOSE_PAREN) refl refl) f)

pub tells_brackets : {G : Type 0} (A : Piece) → Tells A G → Tells (InBrackets A) G
tells_brackets A f = tells_headed (A ⌢ JustSign CLOSE_BRACKET) (Sign OPEN_BRACKET) (anywhere (Sign OPEN_BRACKET) refl refl) (tells_ended A (Sign CLOSE_BRACKET) (anywhere (Sign CLOSE_BRACKET) refl refl) f)

-- behind a brace the piece must not begin with a colon, as no piece of which this is told does
brace_step : (b : Bool) → plain_kind b (Sign OPEN_BRACE) ≡ Some true
brace_step true = refl
brace_step false = refl

pub tells_braced : {G : Type 0} (A : Piece) → Tells A G → Tells (JustSign OPEN_BRACE ⌢ A) G
tells_braced A f = record {
  good = λ b ts h g. subst (λ us. run plain_step b us ≡ Some false) (sym h.2) (append-run plain_step b true false h.0 h.1 (subst (λ us. run plain_step b us ≡ Some true) (sym h.3.1) (one_run b true h.3.0 (Sign OPEN_BRACE) h.3.2 (brace_step b))) (f.good true h.1 h.4 g));
  told = λ b e ts h r.
      let s = split-run plain_step b e h.0 h.1 (subst (λ us. run plain_step b us ≡ Some e) h.2 r) in
      f.told s.0 e h.1 h.4 s.2;
}

pub tells_braces : {G : Type 0} (A : Piece) → Tells A G → Tells (InBraces A) G
tells_braces A f = tells_braced (A ⌢ JustSign CLOSE_BRACE) (tells_ended A (Sign CLOSE_BRACE) (anywhere (Sign CLOSE_BRACE) refl refl) f)

-- ---- lists
pub tells_divided : {X : Type 0} (op : ℕ) (Part : X → Piece) (Good : X → Type 0) (All : List X → Type 0) → plain_kind false (Sign op) ≡ Some false → ((x : X) → Tells (Part x) (Good x)) → All [] → ((x : X) (xs : List X) → Good x → All xs → All (x ∷ xs)) → ((x : X) (xs : List X) → All (x ∷ xs) → Good x × All xs) → (xs : List X) → Tells (Divided op Part xs) (All xs)
tells_divided op Part Good All k f none and apart [] = tells_never (All [])
tells_divided op Part Good All k f none and apart (x ∷ []) = tells_same (Part x) (λ g. and x [] g none) (λ h. (apart x [] h).0) (f x)
tells_divided op Part Good All k f none and apart (x ∷ y ∷ ys) =
    tells_same (Divided op Part (x ∷ y ∷ ys)) (λ g. and x (y ∷ ys) g.0 g.1) (λ h. apart x (y ∷ ys) h) (tells_between (Part x) (Divided op Part (y ∷ ys)) (Sign op) k (f x) (tells_divided op Part Good All k f none and apart (y ∷ ys)))

-- ---- places of terms
pub tells_starting : {G : Type 0} (at : ℕ) (A : Piece) → Tells A G → Tells (Starting at A) G
tells_starting at A f = record { good = λ b ts h g. f.good b ts h.4 g; told = λ b e ts h r. f.told b e ts h.4 r }

pub tells_binding : {G : Type 0} (own asked : ℕ) (A : Piece) → Tells A G → Tells (Binding own asked A) G
tells_binding own asked A f = record { good = λ b ts h g. f.good b ts h.1 g; told = λ b e ts h r. f.told b e ts h.1 r }

pub tells_with_parentheses : {G : Type 0} (n : ℕ) (A : Piece) → Tells A G → Tells (WithParentheses n A) G
tells_with_parentheses zero A f = f
tells_with_parentheses (suc n) A f = tells_parentheses (WithParentheses n A) (tells_with_parentheses n A f)

pub tells_placed : {G : Type 0} (at asked : ℕ) (Written : ℕ → Piece) → ((m : ℕ) → Tells (Written m) G) → Tells (Placed at asked Written) G
tells_placed at asked Written f = record {
  good = λ b ts h g. elim h [
    | inl q ↦ (f asked).good b ts q.4 g
    | inr q ↦ (tells_with_parentheses (suc q.0) (Starting at (Written 0)) (tells_starting at (Written 0) (f 0))).good b ts q.1 g
  ];
  told = λ b e ts h r. elim h [
    | inl q ↦ (f asked).told b e ts q.4 r
    | inr q ↦ (tells_with_parentheses (suc q.0) (Starting at (Written 0)) (tells_starting at (Written 0) (f 0))).told b e ts q.1 r
  ];
}

-- ---- tokens that are cut off
-- these are the tokens before the first addition
abbrev pub IsCut : List Token → List Token → Type 0
IsCut tokens cut = (b : Bool) × (before_addition b (tokens ++ cut) ≡ tokens)

nil_cons : (t : Token) (ts : List Token) → [] ≡ t ∷ ts → ⊥
nil_cons t ts e = cc

passes : (b : Bool) (t : Token) (all rest : List Token) (is : Bool) → is_addition b t.kind ≡ is → before_addition b (t ∷ all) ≡ t ∷ rest → (is_addition b t.kind ≡ false) × (before_addition (is_brace t.kind) all ≡ rest)
passes b t all rest true i e =
    let f : [] ≡ t ∷ rest = (λ j. cond (sym i j) [] (t ∷ before_addition (is_brace t.kind) all)) ∙ e in
    absurd (nil_cons t rest f)
passes b t all rest false i e =
    let f : t ∷ before_addition (is_brace t.kind) all ≡ t ∷ rest = (λ j. cond (sym i j) [] (t ∷ before_addition (is_brace t.kind) all)) ∙ e in
    let g : before_addition (is_brace t.kind) all ≡ rest = cc in
    (i, g)

-- what is not cut off is read
cut_run : (b : Bool) (tokens cut : List Token) → before_addition b (tokens ++ cut) ≡ tokens → (e : Bool) × (run plain_step b tokens ≡ Some e)
cut_run b [] cut h = (b, refl)
cut_run b (t ∷ ts) cut h =
    let p = passes b t (ts ++ cut) ts (is_addition b t.kind) refl h in
    let r = cut_run (is_brace t.kind) ts cut p.1 in
    (r.0, cons-run plain_step b (is_brace t.kind) r.0 t ts (ap (λ i. cond i None (Some (is_brace t.kind))) p.0) r.1)

-- and what is read is not cut off
run_cut : (b e : Bool) (ts more : List Token) → run plain_step b ts ≡ Some e → before_addition b (ts ++ more) ≡ ts ++ before_addition e more
run_cut b e [] more h = ap (λ c. before_addition c more) (some_same b e h)
run_cut b e (t ∷ ts) more h =
    let f = first-step plain_step b e t ts h in
    go (is_addition b t.kind) refl f.0 f.1 f.2 (run_cut f.0 e ts more f.2)
  where
    go : (is : Bool) → is_addition b t.kind ≡ is → (m : Bool) → plain_step b t ≡ Some m → run plain_step m ts ≡ Some e → before_addition m (ts ++ more) ≡ ts ++ before_addition e more → before_addition b ((t ∷ ts) ++ more) ≡ (t ∷ ts) ++ before_addition e more
    go true i m s r again = absurd (none_some m ((λ j. cond (sym i j) None (Some (is_brace t.kind))) ∙ s))
    go false i m s r again =
        let same : is_brace t.kind ≡ m = some_same (is_brace t.kind) m ((λ j. cond (sym i j) None (Some (is_brace t.kind))) ∙ s) in
        (λ j. cond (i j) [] (t ∷ before_addition (is_brace t.kind) (ts ++ more))) ∙ (λ j. t ∷ before_addition (same j) (ts ++ more)) ∙ ap (λ us. t ∷ us) again

pub cut_later : (front back cut : List Token) → IsCut (front ++ back) cut → IsCut back cut
cut_later [] back cut h = h
cut_later (t ∷ front) back cut h =
    let p = passes h.0 t ((front ++ back) ++ cut) (front ++ back) (is_addition h.0 t.kind) refl h.1 in
    cut_later front back cut (is_brace t.kind, p.1)

cancel : (front xs ys : List Token) → front ++ xs ≡ front ++ ys → xs ≡ ys
cancel [] xs ys e = e
cancel (t ∷ front) xs ys e = let f : front ++ xs ≡ front ++ ys = cc in cancel front xs ys f

-- a piece without additions in front of all stands before what is cut off
pub cut_within : {G : Type 0} (A : Piece) → Tells A G → G → (tokens cut front back : List Token) → IsCut tokens cut → tokens ++ cut ≡ front ++ back → A front → (rest : List Token) × (tokens ≡ front ++ rest) × (back ≡ rest ++ cut)
cut_within A f g tokens cut front back k e a =
    let r : run plain_step k.0 front ≡ Some false = f.good k.0 front a g in
    let rest : List Token = before_addition false back in
    let s : tokens ≡ front ++ rest = sym k.1 ∙ ap (before_addition k.0) e ∙ run_cut k.0 false front back r in
    (rest, s, sym (cancel front (rest ++ cut) back (sym (append_assoc front rest cut) ∙ ap (λ ts. ts ++ cut) (sym s) ∙ e)))

-- and one that stands there has none
pub cut_plain : {G : Type 0} (A : Piece) → Tells A G → (tokens cut front back : List Token) → IsCut tokens cut → tokens ≡ front ++ back → A front → G
cut_plain A f tokens cut front back k e a =
    let r = cut_run k.0 tokens cut k.1 in
    let s = split-run plain_step k.0 r.0 front back (subst (λ ts. run plain_step k.0 ts ≡ Some r.0) e r.1) in
    f.told k.0 s.0 front a s.1
