-- Reading one piece after another, each the longest that is written there.
use Rattle.std.specs.Prelude.{◌≡◌, ◌≤◌, true, false, List, [], ◌∷◌, ◌++◌, length, None, refl}
use Rattle.std.proofs.Common.{arith, sym, ◌∙◌, ap, subst, append_assoc, append-nil, length-append}
use Rattle.bk_form.specs.declared.token.Token.{Token}
use Rattle.bk_form.specs.declared.token.TokenKind.{TokenKind}
use Rattle.bk_raw.specs.Grammar.Pieces.{Just, ◌⌢◌}
use Rattle.bk_raw.proofs.Runs.{Halts, no-longer}
use Rattle.bk_raw.proofs.Steps.{Piece, Stopper, step, stepped, Leads}
use Rattle.bk_raw.proofs.Patterns.{just-there, first, last}
use Rattle.bk_p_expr.specs.Fronts.{Longest, Nothing}
use Rattle.bk_p_sub.specs.Longest.{Left}

-- ---- lists of tokens
pub no_more : (xs ys zs : List Token) → ys ≡ xs ++ zs → length ys ≤ length zs → xs ≡ []
no_more [] ys zs e l = refl
no_more (x ∷ xs) ys zs e l = absurd (omega (arith, l, ap length e, length-append xs zs))

-- ---- one behind another
-- what stands behind the token that a piece begins with is where another reading halts
abbrev pub StopsOn : {B : Type 0} → Stopper → (B → Piece) → Type 0
StopsOn {B} stops Behind = (y : B) (back after : List Token) → Behind y back → Halts (step stops) (0, true) (back ++ after)

pub stops_on_just : {B : Type 0} (stops : Stopper) (kind : TokenKind) (K : B → Piece) → stepped stops 0 true kind ≡ None → StopsOn stops (λ y. Just kind ⌢ K y)
stops_on_just stops kind K e y back after h =
    let f = first kind (K y) back h in
    subst (λ ts. Halts (step stops) (0, true) (ts ++ after)) (sym f.is) (ap (stepped stops 0 true) f.same ∙ e)

pub stops_on_last : {B : Type 0} (stops : Stopper) (kind : TokenKind) → stepped stops 0 true kind ≡ None → StopsOn {B = B} stops (λ y. Just kind)
stops_on_last stops kind e y back after h = stops_on_just stops kind (λ _ us. us ≡ []) e y back after (last kind back h)

-- the whole is still to be read
pub left_whole : {A : Type 0} (Written : A → Piece) (tokens : List Token) → Left Written tokens Written tokens (λ x. x)
left_whole Written tokens = record {
  before = [];
  splits = refl;
  into = λ y back h. h;
  only = λ x front after e h. (x, front, refl, e, h);
}

-- what is cut off, where the longest piece is read and another one is followed by what it halts at
pub cut_off : {A : Type 0} (Part : A → Piece) (stops : Stopper) → ((x : A) → Leads stops (0, false) (0, true) (Part x)) → ((x y : A) (ts : List Token) → Part x ts → Part y ts → x ≡ y) → (tokens rest : List Token) (x y : A) (front back after : List Token) → Longest Part tokens x rest → tokens ≡ (front ++ back) ++ after → Part y front → Halts (step stops) (0, true) (back ++ after) → (x ≡ y) × (rest ≡ back ++ after)
cut_off Part stops leads one tokens rest x y front back after h e p halts =
    let f : tokens ≡ front ++ (back ++ after) = e ∙ append_assoc front back after in
    let m = no-longer (step stops) (0, false) (0, true) (0, true) front (back ++ after) h.written rest (leads y front p) (leads x h.written h.spelled) halts (sym f ∙ h.splits) in
    let z : m.0 ≡ [] = no_more m.0 rest (back ++ after) m.2 (h.longest y front (back ++ after) f p) in
    let same : front ≡ h.written = m.1 ∙ ap (λ ts. h.written ++ ts) z ∙ append-nil h.written in
    (one x y h.written h.spelled (subst (Part y) same p), m.2 ∙ ap (λ ts. ts ++ (back ++ after)) z)

pub left_part : {A B C D : Type 0} (Written : D → Piece) (Part : A → Piece) (Both : C → Piece) (Behind : B → Piece) (pair : A → B → C) (stops : Stopper) → ((x : A) → Leads stops (0, false) (0, true) (Part x)) → ((x y : A) (ts : List Token) → Part x ts → Part y ts → x ≡ y) → StopsOn stops Behind → ((z : C) (back : List Token) → Both z back → (x : A) × (y : B) × (z ≡ pair x y) × (Part x ⌢ Behind y) back) → ((x : A) (y : B) (back : List Token) → (Part x ⌢ Behind y) back → Both (pair x y) back) → (tokens ts rest : List Token) (make : C → D) (x : A) → Left Written tokens Both ts make → Longest Part ts x rest → Left Written tokens Behind rest (λ y. make (pair x y))
left_part Written Part Both Behind pair stops leads one halts split join tokens ts rest make x l h = record {
  before = l.before ++ h.written;
  splits = l.splits ∙ ap (λ us. l.before ++ us) h.splits ∙ sym (append_assoc l.before h.written rest);
  into = λ y back k. subst (Written (make (pair x y))) (sym (append_assoc l.before h.written back)) (l.into (pair x y) (h.written ++ back) (join x y (h.written ++ back) (h.written, back, refl, h.spelled, k)));
  only = λ w front after e k.
      let o = l.only w front after e k in
      let s = split o.0 o.1 o.4 in
      let p = s.3 in
      let c = cut_off Part stops leads one ts rest x s.0 p.0 p.1 after h (o.3 ∙ ap (λ us. us ++ after) p.2) p.3 (halts s.1 p.1 after p.4) in
      (s.1, p.1, o.2 ∙ ap make s.2 ∙ ap (λ u. make (pair u s.1)) (sym c.0), c.1, p.4);
}

pub left_token : {B D : Type 0} (Written : D → Piece) (kind : TokenKind) (Behind : B → Piece) (tokens : List Token) (t : Token) (rest : List Token) (make : B → D) → Left Written tokens (λ y. Just kind ⌢ Behind y) (t ∷ rest) make → t.kind ≡ kind → Left Written tokens Behind rest make
left_token Written kind Behind tokens t rest make l e = record {
  before = l.before ++ t ∷ [];
  splits = l.splits ∙ sym (append_assoc l.before (t ∷ []) rest);
  into = λ y back k. subst (Written (make y)) (sym (append_assoc l.before (t ∷ []) back)) (l.into y (t ∷ back) (just-there kind (Behind y) t back e k));
  only = λ w front after f k.
      let o = l.only w front after f k in
      let g = first kind (Behind o.0) o.1 o.4 in
      let both : t ∷ rest ≡ g.token ∷ (g.rest ++ after) = o.3 ∙ ap (λ us. us ++ after) g.is in
      let behind : rest ≡ g.rest ++ after = cc in
      (o.0, g.rest, o.2, behind, g.back);
}

pub left_nothing : {B D : Type 0} (Written : D → Piece) (Behind : B → Piece) (tokens rest : List Token) (make : B → D) → Left Written tokens Behind rest make → Nothing Behind rest → Nothing Written tokens
left_nothing Written Behind tokens rest make l n w front after e k = let o = l.only w front after e k in n o.0 o.1 after o.3 o.4

pub left_longest : {B D : Type 0} (Written : D → Piece) (Behind : B → Piece) (tokens ts rest : List Token) (make : B → D) (y : B) → Left Written tokens Behind ts make → Longest Behind ts y rest → Longest Written tokens (make y) rest
left_longest Written Behind tokens ts rest make y l h = record {
  written = l.before ++ h.written;
  splits = l.splits ∙ ap (λ us. l.before ++ us) h.splits ∙ sym (append_assoc l.before h.written rest);
  spelled = l.into y h.written h.spelled;
  longest = λ w front after e k. let o = l.only w front after e k in h.longest o.0 o.1 after o.3 o.4;
}

-- ---- one piece, or none
pub longest_token : (kind : TokenKind) (t : Token) (rest : List Token) → t.kind ≡ kind → Longest {A = Unit {0}} (λ _. Just kind) (t ∷ rest) tt rest
longest_token kind t rest e = record {
  written = t ∷ [];
  splits = refl;
  spelled = (t, refl, e);
  longest = λ _ front after f k.
      let g : t ∷ rest ≡ k.0 ∷ after = f ∙ ap (λ us. us ++ after) k.1 in
      let same : rest ≡ after = cc in
      omega (arith, ap length same);
}

pub nothing_joined : {A B C : Type 0} (Part : A → Piece) (Both : C → Piece) (Behind : B → Piece) (pair : A → B → C) → ((z : C) (back : List Token) → Both z back → (x : A) × (y : B) × (z ≡ pair x y) × (Part x ⌢ Behind y) back) → (tokens : List Token) → Nothing Part tokens → Nothing Both tokens
nothing_joined Part Both Behind pair split tokens n z front after e h =
    let s = split z front h in
    n s.0 s.3.0 (s.3.1 ++ after) (e ∙ ap (λ us. us ++ after) s.3.2 ∙ append_assoc s.3.0 s.3.1 after) s.3.3

pub nothing_begins : {B : Type 0} (kind : TokenKind) (Behind : B → Piece) (tokens : List Token) → ((t : Token) (rest : List Token) → tokens ≡ t ∷ rest → t.kind ≡ kind → ⊥) → Nothing (λ y. Just kind ⌢ Behind y) tokens
nothing_begins kind Behind tokens n y front after e h = let f = first kind (Behind y) front h in n f.token (f.rest ++ after) (e ∙ ap (λ us. us ++ after) f.is) f.same
