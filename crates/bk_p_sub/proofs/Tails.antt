-- What stands behind the first substitution of a block: further branches, further choices, the end of a loop.
use Rattle.std.specs.Prelude.{Bool, ◌≡◌, ◌⊎◌, ℕ, ◌≤◌, true, List, [], ◌∷◌, ◌++◌, length, None, refl}
use Rattle.std.proofs.Common.{inl, inr, arith, sym, ◌∙◌, ap, subst, append_assoc}
use Rattle.bk_form.specs.declared.token.Token.{Token}
use Rattle.bk_form.specs.declared.token.TokenKind.{TokenKind}
use Rattle.bk_form.specs.declared.token.TokenKind.TheVariants.{Word}
use Rattle.bk_ops.specs.declared.word.TheConstants.{END, THEN, ELSE, OR_BRANCH, INVARIANT, VARIANT}
use Rattle.bk_raw.specs.Grammar.Pieces.{Just, JustWord, ◌⌢◌}
use Rattle.bk_raw.specs.Grammar.Spelling.{Spells}
use Rattle.bk_raw.specs.Trees.RawTree.{RawTree}
use Rattle.bk_raw.specs.Trees.SubTree.{SubTree, Branches, no_branches, else_branch, branch_and, Choices, no_choices, choice_and}
use Rattle.bk_raw.specs.Grammar.SubSpelling.{Sub, Branched, Chosen}
use Rattle.bk_raw.proofs.Shapes.{regrouped}
use Rattle.bk_raw.proofs.Exact.{one_for_its_tokens}
use Rattle.bk_raw.proofs.Steps.{Piece, stepped}
use Rattle.bk_raw.proofs.TermRuns.{ends_term, term}
use Rattle.bk_raw.proofs.Patterns.{just-there, first}
use Rattle.bk_raw.proofs.SubParts.{ends_list}
use Rattle.bk_raw.proofs.SubRuns.{sub-leads}
use Rattle.bk_raw.proofs.SubOne.{one-sub, words-same}
use Rattle.bk_p_expr.specs.Fronts.{Longest, Nothing}
use Rattle.bk_p_sub.specs.Longest.{Left}
use Rattle.bk_p_sub.specs.Found.{Ahead, NotAhead, Before, BranchesEnd, ChoicesEnd, LoopEnd}
use Rattle.bk_p_sub.specs.Statements.{IsBranches, IsChoices, IsOpen, followed_by, and_branch, chosen_then, and_choice}
use Rattle.bk_p_sub.specs.declared.branches.Branches.{Branches as BuiltOnes}
use Rattle.bk_p_sub.specs.declared.branches.Choices.{Choices as BuiltOthers}
use Rattle.bk_p_sub.proofs.Steps.{StopsOn, stops_on_just, stops_on_last, left_part, left_token, left_nothing, left_longest, longest_token, nothing_joined}
use Rattle.bk_p_sub.proofs.Openings.{grouped}

-- ---- a substitution, or a term, and something behind it
pub sub_part : (calls : Bool) {B D : Type 0} (W : D → Piece) (Behind : B → Piece) → StopsOn ends_list Behind → (tokens ts rest : List Token) (make : SubTree × B → D) (s : SubTree) → Left W tokens (λ (q : SubTree × B). Sub calls q.0 0 ⌢ Behind q.1) ts make → Longest (λ (s : SubTree). Sub calls s 0) ts s rest → Left W tokens Behind rest (λ y. make (s, y))
sub_part calls {B} W Behind stops tokens ts rest make s l h = left_part W (λ (s : SubTree). Sub calls s 0) (λ (q : SubTree × B). Sub calls q.0 0 ⌢ Behind q.1) Behind (λ x y. (x, y)) ends_list (λ s. sub-leads calls s 0) (λ s t ts h k. one-sub calls s 0 t ts h k) stops (λ z back h. (z.0, z.1, refl, h)) (λ x y back h. h) tokens ts rest make s l h

pub sub_part_nothing : (calls : Bool) {B D : Type 0} (W : D → Piece) (Behind : B → Piece) (tokens ts : List Token) (make : SubTree × B → D) → Left W tokens (λ (q : SubTree × B). Sub calls q.0 0 ⌢ Behind q.1) ts make → Nothing (λ (s : SubTree). Sub calls s 0) ts → Nothing W tokens
sub_part_nothing calls {B} W Behind tokens ts make l n = left_nothing W (λ (q : SubTree × B). Sub calls q.0 0 ⌢ Behind q.1) tokens ts make l (nothing_joined (λ (s : SubTree). Sub calls s 0) (λ (q : SubTree × B). Sub calls q.0 0 ⌢ Behind q.1) Behind (λ x y. (x, y)) (λ z back h. (z.0, z.1, refl, h)) ts n)

pub term_part : {B D : Type 0} (W : D → Piece) (ahead : TokenKind) (Behind : B → Piece) → stepped ends_term 0 true ahead ≡ None → (tokens ts rest : List Token) (make : RawTree × B → D) (t : RawTree) → Left W tokens (λ (q : RawTree × B). Spells q.0 ⌢ (Just ahead ⌢ Behind q.1)) ts make → Before Spells ahead ts t rest → Left W tokens Behind rest (λ y. make (t, y))
term_part {B} W ahead Behind halts tokens ts rest make t l h =
    left_token W ahead Behind tokens h.sign rest (λ y. make (t, y)) (left_part W Spells (λ (q : RawTree × B). Spells q.0 ⌢ (Just ahead ⌢ Behind q.1)) (λ y. Just ahead ⌢ Behind y) (λ x y. (x, y)) ends_term (λ t. term t 0) (λ t u ts h k. one_for_its_tokens ts t u h k) (stops_on_just ends_term ahead Behind halts) (λ z back h. (z.0, z.1, refl, h)) (λ x y back h. h) tokens ts (h.sign ∷ rest) make t l h.found) h.same

pub term_part_nothing : {B D : Type 0} (W : D → Piece) (ahead : TokenKind) (Behind : B → Piece) (tokens ts : List Token) (make : RawTree × B → D) → Left W tokens (λ (q : RawTree × B). Spells q.0 ⌢ (Just ahead ⌢ Behind q.1)) ts make → Nothing (λ t. Spells t ⌢ Just ahead) ts → Nothing W tokens
term_part_nothing {B} W ahead Behind tokens ts make l n = left_nothing W (λ (q : RawTree × B). Spells q.0 ⌢ (Just ahead ⌢ Behind q.1)) tokens ts make l none
  where
    none : (q : RawTree × B) (front after : List Token) → ts ≡ front ++ after → (Spells q.0 ⌢ (Just ahead ⌢ Behind q.1)) front → ⊥
    none q front after e h =
        let g = grouped (Spells q.0) (Just ahead) (Behind q.1) front h in
        n q.0 g.0 (g.1 ++ after) (e ∙ ap (λ us. us ++ after) g.2 ∙ append_assoc g.0 g.1 after) g.3

-- a substitution and END
pub sub_end_longest : (calls : Bool) {D : Type 0} (W : D → Piece) (tokens ts after rest : List Token) (make : SubTree → D) (s : SubTree) → Left W tokens (λ (s : SubTree). Sub calls s 0 ⌢ JustWord END) ts make → Longest (λ (s : SubTree). Sub calls s 0) ts s after → Ahead (Word END) after rest → Longest W tokens (make s) rest
sub_end_longest calls W tokens ts after rest make s l h a =
    left_longest W (λ (_ : Unit {0}). JustWord END) tokens after rest (λ _. make s) tt
    (left_part W (λ (s : SubTree). Sub calls s 0) (λ (s : SubTree). Sub calls s 0 ⌢ JustWord END) (λ (_ : Unit {0}). JustWord END) (λ x y. x) ends_list (λ s. sub-leads calls s 0) (λ s t ts h k. one-sub calls s 0 t ts h k) (stops_on_last ends_list (Word END) refl) (λ z back h. (z, tt, refl, h)) (λ x y back h. h) tokens ts after make s l h)
    (subst (λ us. Longest (λ (_ : Unit {0}). JustWord END) us tt rest) (sym a.1) (longest_token (Word END) a.0 rest a.2))

pub sub_end_nothing : (calls : Bool) {D : Type 0} (W : D → Piece) (tokens ts after : List Token) (make : SubTree → D) (s : SubTree) → Left W tokens (λ (s : SubTree). Sub calls s 0 ⌢ JustWord END) ts make → Longest (λ (s : SubTree). Sub calls s 0) ts s after → NotAhead (Word END) after → Nothing W tokens
sub_end_nothing calls W tokens ts after make s l h n =
    left_nothing W (λ (_ : Unit {0}). JustWord END) tokens after (λ _. make s)
    (left_part W (λ (s : SubTree). Sub calls s 0) (λ (s : SubTree). Sub calls s 0 ⌢ JustWord END) (λ (_ : Unit {0}). JustWord END) (λ x y. x) ends_list (λ s. sub-leads calls s 0) (λ s t ts h k. one-sub calls s 0 t ts h k) (stops_on_last ends_list (Word END) refl) (λ z back h. (z, tt, refl, h)) (λ x y back h. h) tokens ts after make s l h)
    (λ _ front rest e k. n k.0 rest (e ∙ ap (λ us. us ++ rest) k.1) k.2)

pub sub_end_none : (calls : Bool) {D : Type 0} (W : D → Piece) (tokens ts : List Token) (make : SubTree → D) → Left W tokens (λ (s : SubTree). Sub calls s 0 ⌢ JustWord END) ts make → Nothing (λ (s : SubTree). Sub calls s 0) ts → Nothing W tokens
sub_end_none calls W tokens ts make l n = left_nothing W (λ (s : SubTree). Sub calls s 0 ⌢ JustWord END) tokens ts make l (λ s front after e h. n s h.0 (h.1 ++ after) (e ∙ ap (λ us. us ++ after) h.2 ∙ append_assoc h.0 h.1 after) h.3)

-- ---- further branches
abbrev BranchBehind : (calls : Bool) → ℕ → RawTree × (SubTree × Branches) → Piece
BranchBehind calls op q = Spells q.0 ⌢ (JustWord THEN ⌢ (Sub calls q.1.0 0 ⌢ BranchesEnd calls op q.1.1))

abbrev BranchView : (calls : Bool) → ℕ → Branches → Token → List Token → Type 0
BranchView calls op y u us = ((y ≡ no_branches) × (u.kind ≡ Word END) × (us ≡ [])) ⊎ (((s : SubTree) × (y ≡ else_branch s) × (u.kind ≡ Word ELSE) × (Sub calls s 0 ⌢ JustWord END) us) ⊎ ((q : RawTree × (SubTree × Branches)) × (y ≡ branch_and q.0 q.1.0 q.1.1) × (u.kind ≡ Word op) × BranchBehind calls op q us))

abbrev Seen : (Token → List Token → Type 0) → List Token → Type 0
Seen V back = (u : Token) × (us : List Token) × (back ≡ u ∷ us) × V u us

second : (First K L : Piece) (ts : List Token) → ((us : List Token) → K us → L us) → (First ⌢ K) ts → (First ⌢ L) ts
second First K L ts f h = (h.0, h.1, h.2, h.3, f h.1 h.4)

to_branch : (calls : Bool) (op : ℕ) (p : RawTree) (s : SubTree) (cs : Branches) (ts : List Token) → ((Spells p ⌢ JustWord THEN ⌢ (Sub calls s 0 ⌢ Branched calls op cs)) ⌢ JustWord END) ts → BranchBehind calls op (p, (s, cs)) ts
to_branch calls op p s cs ts h =
    second (Spells p) ((JustWord THEN ⌢ (Sub calls s 0 ⌢ Branched calls op cs)) ⌢ JustWord END) (JustWord THEN ⌢ (Sub calls s 0 ⌢ BranchesEnd calls op cs)) ts
    (λ us k. second (JustWord THEN) ((Sub calls s 0 ⌢ Branched calls op cs) ⌢ JustWord END) (Sub calls s 0 ⌢ BranchesEnd calls op cs) us (λ vs m. regrouped (Sub calls s 0) (Branched calls op cs) (JustWord END) vs m) (regrouped (JustWord THEN) (Sub calls s 0 ⌢ Branched calls op cs) (JustWord END) us k))
    (regrouped (Spells p) (JustWord THEN ⌢ (Sub calls s 0 ⌢ Branched calls op cs)) (JustWord END) ts h)

of_branch : (calls : Bool) (op : ℕ) (p : RawTree) (s : SubTree) (cs : Branches) (ts : List Token) → BranchBehind calls op (p, (s, cs)) ts → ((Spells p ⌢ JustWord THEN ⌢ (Sub calls s 0 ⌢ Branched calls op cs)) ⌢ JustWord END) ts
of_branch calls op p s cs ts h =
    grouped (Spells p) (JustWord THEN ⌢ (Sub calls s 0 ⌢ Branched calls op cs)) (JustWord END) ts
    (second (Spells p) (JustWord THEN ⌢ (Sub calls s 0 ⌢ BranchesEnd calls op cs)) ((JustWord THEN ⌢ (Sub calls s 0 ⌢ Branched calls op cs)) ⌢ JustWord END) ts
    (λ us k. grouped (JustWord THEN) (Sub calls s 0 ⌢ Branched calls op cs) (JustWord END) us (second (JustWord THEN) (Sub calls s 0 ⌢ BranchesEnd calls op cs) ((Sub calls s 0 ⌢ Branched calls op cs) ⌢ JustWord END) us (λ vs m. grouped (Sub calls s 0) (Branched calls op cs) (JustWord END) vs m) k)) h)

view_branches : (calls : Bool) (op : ℕ) (y : Branches) (back : List Token) → BranchesEnd calls op y back → Seen (BranchView calls op y) back
view_branches calls op no_branches back h = (h.4.0, [], h.2 ∙ ap (λ us. us ++ h.1) h.3 ∙ h.4.1, inl (refl, h.4.2, refl))
view_branches calls op (else_branch s) back h =
    let f = first (Word ELSE) (Sub calls s 0 ⌢ JustWord END) back (regrouped (JustWord ELSE) (Sub calls s 0) (JustWord END) back h) in
    (f.token, f.rest, f.is, inr (inl (s, refl, f.same, f.back)))
view_branches calls op (branch_and p s cs) back h =
    let f = first (Word op) ((Spells p ⌢ JustWord THEN ⌢ (Sub calls s 0 ⌢ Branched calls op cs)) ⌢ JustWord END) back (regrouped (JustWord op) (Spells p ⌢ JustWord THEN ⌢ (Sub calls s 0 ⌢ Branched calls op cs)) (JustWord END) back h) in
    (f.token, f.rest, f.is, inr (inr ((p, (s, cs)), refl, f.same, to_branch calls op p s cs f.rest f.back)))

end_there : (calls : Bool) (op : ℕ) (t : Token) → t.kind ≡ Word END → BranchesEnd calls op no_branches (t ∷ [])
end_there calls op t e = ([], t ∷ [], refl, refl, (t, refl, e))

else_there : (calls : Bool) (op : ℕ) (s : SubTree) (t : Token) (ts : List Token) → t.kind ≡ Word ELSE → (Sub calls s 0 ⌢ JustWord END) ts → BranchesEnd calls op (else_branch s) (t ∷ ts)
else_there calls op s t ts e h = grouped (JustWord ELSE) (Sub calls s 0) (JustWord END) (t ∷ ts) (just-there (Word ELSE) (Sub calls s 0 ⌢ JustWord END) t ts e h)

branch_there : (calls : Bool) (op : ℕ) (q : RawTree × (SubTree × Branches)) (t : Token) (ts : List Token) → t.kind ≡ Word op → BranchBehind calls op q ts → BranchesEnd calls op (branch_and q.0 q.1.0 q.1.1) (t ∷ ts)
branch_there calls op q t ts e h = grouped (JustWord op) (Spells q.0 ⌢ JustWord THEN ⌢ (Sub calls q.1.0 0 ⌢ Branched calls op q.1.1)) (JustWord END) (t ∷ ts) (just-there (Word op) ((Spells q.0 ⌢ JustWord THEN ⌢ (Sub calls q.1.0 0 ⌢ Branched calls op q.1.1)) ⌢ JustWord END) t ts e (of_branch calls op q.0 q.1.0 q.1.1 ts h))

-- the word before a further branch halts a list, and is neither ELSE nor END
pub record IsBranchWord (op : ℕ) : Type 0 where
  pub halts : stepped ends_list 0 true (Word op) ≡ None
  pub no_else : op ≡ ELSE → ⊥
  pub no_end : op ≡ END → ⊥

pub stops_branches : (calls : Bool) (op : ℕ) → IsBranchWord op → StopsOn ends_list (BranchesEnd calls op)
stops_branches calls op w no_branches back after h = stops_on_last {B = Unit {0}} ends_list (Word END) refl tt back after (subst (JustWord END) (sym (h.2 ∙ ap (λ us. us ++ h.1) h.3)) h.4)
stops_branches calls op w (else_branch s) back after h = stops_on_just {B = Unit {0}} ends_list (Word ELSE) (λ _. Sub calls s 0 ⌢ JustWord END) refl tt back after (regrouped (JustWord ELSE) (Sub calls s 0) (JustWord END) back h)
stops_branches calls op w (branch_and p s cs) back after h = stops_on_just {B = Unit {0}} ends_list (Word op) (λ _. (Spells p ⌢ JustWord THEN ⌢ (Sub calls s 0 ⌢ Branched calls op cs)) ⌢ JustWord END) w.halts tt back after (regrouped (JustWord op) (Spells p ⌢ JustWord THEN ⌢ (Sub calls s 0 ⌢ Branched calls op cs)) (JustWord END) back h)

same_kind_there : (t u : Token) (ts us after : List Token) (k l : ℕ) → t ∷ ts ≡ (u ∷ us) ++ after → t.kind ≡ Word k → u.kind ≡ Word l → (k ≡ l) × (ts ≡ us ++ after)
same_kind_there t u ts us after k l e a b =
    let same : t ≡ u = cc in
    let behind : ts ≡ us ++ after = cc in
    (words-same k l (sym a ∙ ap (λ x. x.kind) same ∙ b), behind)

else_no_end : ELSE ≡ END → ⊥
else_no_end e = omega (arith, e)

-- a further branch
pub narrow_branch : (calls : Bool) {D : Type 0} (W : D → Piece) (op : ℕ) (w : IsBranchWord op) (tokens : List Token) (t : Token) (ts : List Token) (make : Branches → D) → t.kind ≡ Word op → Left W tokens (BranchesEnd calls op) (t ∷ ts) make → Left W tokens (BranchBehind calls op) ts (λ q. make (branch_and q.0 q.1.0 q.1.1))
narrow_branch calls {D} W op w tokens t ts make k l = record {
  before = l.before ++ t ∷ [];
  splits = l.splits ∙ sym (append_assoc l.before (t ∷ []) ts);
  into = λ q back h. subst (W (make (branch_and q.0 q.1.0 q.1.1))) (sym (append_assoc l.before (t ∷ []) back)) (l.into (branch_and q.0 q.1.0 q.1.1) (t ∷ back) (branch_there calls op q t back k h));
  only = only;
}
  where
    seen : (x : D) (after : List Token) (y : Branches) (u : Token) (us : List Token) → x ≡ make y → t ∷ ts ≡ (u ∷ us) ++ after → BranchView calls op y u us → (q : RawTree × (SubTree × Branches)) × (back : List Token) × (x ≡ make (branch_and q.0 q.1.0 q.1.1)) × (ts ≡ back ++ after) × BranchBehind calls op q back
    seen x after y u us is e (inl v) = absurd (w.no_end (same_kind_there t u ts us after op END e k v.1).0)
    seen x after y u us is e (inr (inl v)) = absurd (w.no_else (same_kind_there t u ts us after op ELSE e k v.2).0)
    seen x after y u us is e (inr (inr v)) = (v.0, us, is ∙ ap make v.1, (same_kind_there t u ts us after op op e k v.2).1, v.3)

    only : (x : D) (front after : List Token) → tokens ≡ front ++ after → W x front → (q : RawTree × (SubTree × Branches)) × (back : List Token) × (x ≡ make (branch_and q.0 q.1.0 q.1.1)) × (ts ≡ back ++ after) × BranchBehind calls op q back
    only x front after e h =
        let o = l.only x front after e h in
        let v = view_branches calls op o.0 o.1 o.4 in
        seen x after o.0 v.0 v.1 o.2 (o.3 ∙ ap (λ us. us ++ after) v.2) v.3

-- ELSE
pub narrow_else : (calls : Bool) {D : Type 0} (W : D → Piece) (op : ℕ) (w : IsBranchWord op) (tokens : List Token) (t : Token) (ts : List Token) (make : Branches → D) → t.kind ≡ Word ELSE → Left W tokens (BranchesEnd calls op) (t ∷ ts) make → Left W tokens (λ (s : SubTree). Sub calls s 0 ⌢ JustWord END) ts (λ s. make (else_branch s))
narrow_else calls {D} W op w tokens t ts make k l = record {
  before = l.before ++ t ∷ [];
  splits = l.splits ∙ sym (append_assoc l.before (t ∷ []) ts);
  into = λ s back h. subst (W (make (else_branch s))) (sym (append_assoc l.before (t ∷ []) back)) (l.into (else_branch s) (t ∷ back) (else_there calls op s t back k h));
  only = only;
}
  where
    seen : (x : D) (after : List Token) (y : Branches) (u : Token) (us : List Token) → x ≡ make y → t ∷ ts ≡ (u ∷ us) ++ after → BranchView calls op y u us → (s : SubTree) × (back : List Token) × (x ≡ make (else_branch s)) × (ts ≡ back ++ after) × (Sub calls s 0 ⌢ JustWord END) back
    seen x after y u us is e (inl v) = absurd (else_no_end (same_kind_there t u ts us after ELSE END e k v.1).0)
    seen x after y u us is e (inr (inl v)) = (v.0, us, is ∙ ap make v.1, (same_kind_there t u ts us after ELSE ELSE e k v.2).1, v.3)
    seen x after y u us is e (inr (inr v)) = absurd (w.no_else (sym (same_kind_there t u ts us after ELSE op e k v.2).0))

    only : (x : D) (front after : List Token) → tokens ≡ front ++ after → W x front → (s : SubTree) × (back : List Token) × (x ≡ make (else_branch s)) × (ts ≡ back ++ after) × (Sub calls s 0 ⌢ JustWord END) back
    only x front after e h =
        let o = l.only x front after e h in
        let v = view_branches calls op o.0 o.1 o.4 in
        seen x after o.0 v.0 v.1 o.2 (o.3 ∙ ap (λ us. us ++ after) v.2) v.3

-- END
pub branches_end : (calls : Bool) (op : ℕ) (t : Token) (rest : List Token) → IsBranchWord op → t.kind ≡ Word END → Longest (BranchesEnd calls op) (t ∷ rest) no_branches rest
branches_end calls op t rest w k = record { written = t ∷ []; splits = refl; spelled = end_there calls op t k; longest = longer }
  where
    seen : (y : Branches) (after : List Token) (u : Token) (us : List Token) → t ∷ rest ≡ (u ∷ us) ++ after → BranchView calls op y u us → length rest ≤ length after
    seen y after u us e (inl v) = omega (arith, ap length ((same_kind_there t u rest us after END END e k v.1).1 ∙ ap (λ vs. vs ++ after) v.2))
    seen y after u us e (inr (inl v)) = absurd (else_no_end (sym (same_kind_there t u rest us after END ELSE e k v.2).0))
    seen y after u us e (inr (inr v)) = absurd (w.no_end (sym (same_kind_there t u rest us after END op e k v.2).0))

    longer : (y : Branches) (front after : List Token) → t ∷ rest ≡ front ++ after → BranchesEnd calls op y front → length rest ≤ length after
    longer y front after e h = let v = view_branches calls op y front h in seen y after v.0 v.1 (e ∙ ap (λ us. us ++ after) v.2) v.3

pub branches_nothing : (calls : Bool) (op : ℕ) (tokens : List Token) → NotAhead (Word op) tokens → NotAhead (Word ELSE) tokens → NotAhead (Word END) tokens → Nothing (BranchesEnd calls op) tokens
branches_nothing calls op tokens a b c y front after e h = let v = view_branches calls op y front h in seen v.0 v.1 (e ∙ ap (λ us. us ++ after) v.2) v.3
  where
    seen : (u : Token) (us : List Token) → tokens ≡ (u ∷ us) ++ after → BranchView calls op y u us → ⊥
    seen u us f (inl v) = c u (us ++ after) f v.1
    seen u us f (inr (inl v)) = b u (us ++ after) f v.2
    seen u us f (inr (inr v)) = a u (us ++ after) f v.2

-- ---- further choices
abbrev ChoiceView : (calls : Bool) → Choices → Token → List Token → Type 0
ChoiceView calls y u us = ((y ≡ no_choices) × (u.kind ≡ Word END) × (us ≡ [])) ⊎ ((q : SubTree × Choices) × (y ≡ choice_and q.0 q.1) × (u.kind ≡ Word OR_BRANCH) × (Sub calls q.0 0 ⌢ ChoicesEnd calls q.1) us)

view_choices : (calls : Bool) (y : Choices) (back : List Token) → ChoicesEnd calls y back → Seen (ChoiceView calls y) back
view_choices calls no_choices back h = (h.4.0, [], h.2 ∙ ap (λ us. us ++ h.1) h.3 ∙ h.4.1, inl (refl, h.4.2, refl))
view_choices calls (choice_and s cs) back h =
    let f = first (Word OR_BRANCH) ((Sub calls s 0 ⌢ Chosen calls cs) ⌢ JustWord END) back (regrouped (JustWord OR_BRANCH) (Sub calls s 0 ⌢ Chosen calls cs) (JustWord END) back h) in
    (f.token, f.rest, f.is, inr ((s, cs), refl, f.same, regrouped (Sub calls s 0) (Chosen calls cs) (JustWord END) f.rest f.back))

choice_there : (calls : Bool) (q : SubTree × Choices) (t : Token) (ts : List Token) → t.kind ≡ Word OR_BRANCH → (Sub calls q.0 0 ⌢ ChoicesEnd calls q.1) ts → ChoicesEnd calls (choice_and q.0 q.1) (t ∷ ts)
choice_there calls q t ts e h = grouped (JustWord OR_BRANCH) (Sub calls q.0 0 ⌢ Chosen calls q.1) (JustWord END) (t ∷ ts) (just-there (Word OR_BRANCH) ((Sub calls q.0 0 ⌢ Chosen calls q.1) ⌢ JustWord END) t ts e (grouped (Sub calls q.0 0) (Chosen calls q.1) (JustWord END) ts h))

or_no_end : OR_BRANCH ≡ END → ⊥
or_no_end e = omega (arith, e)

pub stops_choices : (calls : Bool) → StopsOn ends_list (ChoicesEnd calls)
stops_choices calls no_choices back after h = stops_on_last {B = Unit {0}} ends_list (Word END) refl tt back after (subst (JustWord END) (sym (h.2 ∙ ap (λ us. us ++ h.1) h.3)) h.4)
stops_choices calls (choice_and s cs) back after h = stops_on_just {B = Unit {0}} ends_list (Word OR_BRANCH) (λ _. (Sub calls s 0 ⌢ Chosen calls cs) ⌢ JustWord END) refl tt back after (regrouped (JustWord OR_BRANCH) (Sub calls s 0 ⌢ Chosen calls cs) (JustWord END) back h)

pub narrow_choice : (calls : Bool) {D : Type 0} (W : D → Piece) (tokens : List Token) (t : Token) (ts : List Token) (make : Choices → D) → t.kind ≡ Word OR_BRANCH → Left W tokens (ChoicesEnd calls) (t ∷ ts) make → Left W tokens (λ (q : SubTree × Choices). Sub calls q.0 0 ⌢ ChoicesEnd calls q.1) ts (λ q. make (choice_and q.0 q.1))
narrow_choice calls {D} W tokens t ts make k l = record {
  before = l.before ++ t ∷ [];
  splits = l.splits ∙ sym (append_assoc l.before (t ∷ []) ts);
  into = λ q back h. subst (W (make (choice_and q.0 q.1))) (sym (append_assoc l.before (t ∷ []) back)) (l.into (choice_and q.0 q.1) (t ∷ back) (choice_there calls q t back k h));
  only = only;
}
  where
    seen : (x : D) (after : List Token) (y : Choices) (u : Token) (us : List Token) → x ≡ make y → t ∷ ts ≡ (u ∷ us) ++ after → ChoiceView calls y u us → (q : SubTree × Choices) × (back : List Token) × (x ≡ make (choice_and q.0 q.1)) × (ts ≡ back ++ after) × (Sub calls q.0 0 ⌢ ChoicesEnd calls q.1) back
    seen x after y u us is e (inl v) = absurd (or_no_end (same_kind_there t u ts us after OR_BRANCH END e k v.1).0)
    seen x after y u us is e (inr v) = (v.0, us, is ∙ ap make v.1, (same_kind_there t u ts us after OR_BRANCH OR_BRANCH e k v.2).1, v.3)

    only : (x : D) (front after : List Token) → tokens ≡ front ++ after → W x front → (q : SubTree × Choices) × (back : List Token) × (x ≡ make (choice_and q.0 q.1)) × (ts ≡ back ++ after) × (Sub calls q.0 0 ⌢ ChoicesEnd calls q.1) back
    only x front after e h =
        let o = l.only x front after e h in
        let v = view_choices calls o.0 o.1 o.4 in
        seen x after o.0 v.0 v.1 o.2 (o.3 ∙ ap (λ us. us ++ after) v.2) v.3

pub choices_end : (calls : Bool) (t : Token) (rest : List Token) → t.kind ≡ Word END → Longest (ChoicesEnd calls) (t ∷ rest) no_choices rest
choices_end calls t rest k = record { written = t ∷ []; splits = refl; spelled = ([], t ∷ [], refl, refl, (t, refl, k)); longest = longer }
  where
    seen : (y : Choices) (after : List Token) (u : Token) (us : List Token) → t ∷ rest ≡ (u ∷ us) ++ after → ChoiceView calls y u us → length rest ≤ length after
    seen y after u us e (inl v) = omega (arith, ap length ((same_kind_there t u rest us after END END e k v.1).1 ∙ ap (λ vs. vs ++ after) v.2))
    seen y after u us e (inr v) = absurd (or_no_end (sym (same_kind_there t u rest us after END OR_BRANCH e k v.2).0))

    longer : (y : Choices) (front after : List Token) → t ∷ rest ≡ front ++ after → ChoicesEnd calls y front → length rest ≤ length after
    longer y front after e h = let v = view_choices calls y front h in seen y after v.0 v.1 (e ∙ ap (λ us. us ++ after) v.2) v.3

pub choices_nothing : (calls : Bool) (tokens : List Token) → NotAhead (Word OR_BRANCH) tokens → NotAhead (Word END) tokens → Nothing (ChoicesEnd calls) tokens
choices_nothing calls tokens a c y front after e h = let v = view_choices calls y front h in seen v.0 v.1 (e ∙ ap (λ us. us ++ after) v.2) v.3
  where
    seen : (u : Token) (us : List Token) → tokens ≡ (u ∷ us) ++ after → ChoiceView calls y u us → ⊥
    seen u us f (inl v) = c u (us ++ after) f v.1
    seen u us f (inr v) = a u (us ++ after) f v.2

-- ---- lists of branches and choices
pub followed_none : (bs : Branches) → followed_by bs no_branches ≡ bs
followed_none no_branches = refl
followed_none (else_branch s) = refl
followed_none (branch_and p s bs) = λ i. branch_and p s (followed_none bs i)

pub followed_more : (bs : Branches) (p : RawTree) (s : SubTree) (cs : Branches) → followed_by bs (branch_and p s cs) ≡ followed_by (and_branch bs p s) cs
followed_more no_branches p s cs = refl
followed_more (else_branch r) p s cs = refl
followed_more (branch_and q r bs) p s cs = λ i. branch_and q r (followed_more bs p s cs i)

pub chosen_none : (cs : Choices) → chosen_then cs no_choices ≡ cs
chosen_none no_choices = refl
chosen_none (choice_and s cs) = λ i. choice_and s (chosen_none cs i)

pub chosen_more : (cs : Choices) (s : SubTree) (ds : Choices) → chosen_then cs (choice_and s ds) ≡ chosen_then (and_choice cs s) ds
chosen_more no_choices s ds = refl
chosen_more (choice_and r cs) s ds = λ i. choice_and r (chosen_more cs s ds i)

pub left_same : {B D : Type 0} (W : D → Piece) (Behind : B → Piece) (tokens rest : List Token) (make other : B → D) → ((y : B) → make y ≡ other y) → Left W tokens Behind rest make → Left W tokens Behind rest other
left_same W Behind tokens rest make other e l = record {
  before = l.before;
  splits = l.splits;
  into = λ y back h. subst (λ x. W x (l.before ++ back)) (e y) (l.into y back h);
  only = λ x front after f h. let o = l.only x front after f h in (o.0, o.1, o.2 ∙ e o.0, o.3, o.4);
}

-- ---- the end of a loop
pub stops_loop_end : StopsOn ends_list LoopEnd
stops_loop_end q back after h = stops_on_just {B = RawTree × RawTree} ends_list (Word INVARIANT) (λ q. Spells q.0 ⌢ JustWord VARIANT ⌢ Spells q.1 ⌢ JustWord END) refl q back after h

-- ---- as far as further branches and choices are read
pub record BranchesSoFar (calls : Bool) (op : ℕ) (tokens : List Token) (all : BuiltOnes) (rest : List Token) : Type 0 where
  pub branches : Branches
  pub built : IsBranches branches all
  pub has_no_else : IsOpen all
  pub left : Left (BranchesEnd calls op) tokens (BranchesEnd calls op) rest (λ cs. followed_by branches cs)
  pub no_longer : length rest ≤ length tokens

pub record ChoicesSoFar (calls : Bool) (tokens : List Token) (all : BuiltOthers) (rest : List Token) : Type 0 where
  pub choices : Choices
  pub built : IsChoices choices all
  pub left : Left (ChoicesEnd calls) tokens (ChoicesEnd calls) rest (λ cs. chosen_then choices cs)
  pub no_longer : length rest ≤ length tokens
