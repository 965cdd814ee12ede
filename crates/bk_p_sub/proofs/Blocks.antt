-- Blocks with branches, choices and loops, as the code reads them.
use Rattle.std.specs.Prelude.{Bool, ◌≡◌, ℕ, ◌<◌, List, ◌∷◌, length, refl}
use Rattle.std.proofs.Common.{arith, ap, subst}
use Rattle.bk_form.specs.declared.token.Token.{Token}
use Rattle.bk_form.specs.declared.token.TokenKind.{TokenKind}
use Rattle.bk_form.specs.declared.token.TokenKind.TheVariants.{Word}
use Rattle.bk_ops.specs.declared.word.TheConstants.{END, THEN, ELSE, OR_BRANCH, INVARIANT, VARIANT}
use Rattle.bk_raw.specs.Grammar.Pieces.{JustWord, ◌⌢◌}
use Rattle.bk_raw.specs.Grammar.Reading.{start}
use Rattle.bk_raw.specs.Grammar.Spelling.{Spells}
use Rattle.bk_raw.specs.Trees.RawTree.{RawTree}
use Rattle.bk_raw.specs.Trees.SubTree.{SubTree, sub, SubNode, sub_choice, sub_while, Branches, no_branches, else_branch, branch_and, Choices, no_choices, choice_and}
use Rattle.bk_raw.specs.Grammar.SubSpelling.{Sub}
use Rattle.bk_raw.proofs.Steps.{Piece}
use Rattle.bk_raw.proofs.TermRuns.{ends_term, term}
use Rattle.bk_raw.proofs.Exact.{one_for_its_tokens}
use Rattle.bk_raw.proofs.SubParts.{ends_list}
use Rattle.bk_p_expr.specs.Fronts.{Longest, Nothing}
use Rattle.bk_p_sub.specs.declared.term.Term.{Term}
use Rattle.bk_p_sub.specs.Longest.{Left}
use Rattle.bk_p_sub.specs.Found.{Atom, Ahead, NotAhead, Before, FoundBefore, BranchesEnd, ChoicesEnd, LoopEnd}
use Rattle.bk_p_sub.specs.Statements.{IsStatement, IsTerm, IsAround, IsBranches, IsChoices, IsOpen, tested_node, word_of, followed_by, and_branch, and_else, chosen_then, and_choice}
use Rattle.bk_p_sub.specs.declared.statement.Statement.{Statement}
use Rattle.bk_p_sub.specs.declared.statement.Around.{Around}
use Rattle.bk_p_sub.specs.declared.statement.Test.{Test}
use Rattle.bk_p_sub.specs.declared.statement.Test.TheVariants.{If, Select}
use Rattle.bk_p_sub.specs.declared.branches.Branches.{Branches as BuiltOnes}
use Rattle.bk_p_sub.specs.declared.branches.Choices.{Choices as BuiltOthers}
use Rattle.bk_p_sub.proofs.Steps.{StopsOn, stops_on_last, left_whole, left_part, left_nothing, left_longest, longest_token, nothing_begins}
use Rattle.bk_p_sub.proofs.Tails.{IsBranchWord, BranchesSoFar, ChoicesSoFar, sub_part, sub_part_nothing, term_part, term_part_nothing, sub_end_longest, sub_end_nothing, sub_end_none, stops_branches, stops_choices, stops_loop_end, narrow_branch, narrow_else, narrow_choice, branches_end, branches_nothing, choices_end, choices_nothing, followed_none, followed_more, chosen_none, chosen_more, left_same}
use Rattle.bk_p_sub.proofs.Targets.{left_ahead}

-- what is read as a substitution
abbrev pub FoundSub : (calls : Bool) → ℕ → List Token → Statement → List Token → Type 0
FoundSub calls m tokens statement rest = (s : SubTree) × Longest (λ (s : SubTree). Sub calls s m) tokens s rest × IsStatement s statement

at_ahead : {B D : Type 0} (W : D → Piece) (Behind : B → Piece) (kind : TokenKind) (tokens ts rest : List Token) (make : B → D) → (a : Ahead kind ts rest) → Left W tokens Behind ts make → Left W tokens Behind (a.0 ∷ rest) make
at_ahead W Behind kind tokens ts rest make a l = subst (λ us. Left W tokens Behind us make) a.1 l

pub branch_word : (test : Test) → IsBranchWord (word_of test)
branch_word If = record { halts = refl; no_else = λ e. omega (arith, e); no_end = λ e. omega (arith, e) }
branch_word Select = record { halts = refl; no_else = λ e. omega (arith, e); no_end = λ e. omega (arith, e) }

-- ---- further branches
pub branches_begin : (calls : Bool) (op : ℕ) (tokens : List Token) (all : BuiltOnes) → IsBranches no_branches all → IsOpen all → BranchesSoFar calls op tokens all tokens
branches_begin calls op tokens all b o = record { branches = no_branches; built = b; has_no_else = o; left = left_whole (BranchesEnd calls op) tokens; no_longer = omega arith }

module _ (calls : Bool) (op : ℕ) (w : IsBranchWord op) (tokens : List Token) (all : BuiltOnes) (ts : List Token) (s : BranchesSoFar calls op tokens all ts) where
  behind_word : (behind : List Token) → Ahead (Word op) ts behind → Left (BranchesEnd calls op) tokens (λ (q : RawTree × (SubTree × Branches)). Spells q.0 ⌢ (JustWord THEN ⌢ (Sub calls q.1.0 0 ⌢ BranchesEnd calls op q.1.1))) behind (λ q. followed_by s.branches (branch_and q.0 q.1.0 q.1.1))
  behind_word behind a = narrow_branch calls (BranchesEnd calls op) op w tokens a.0 behind (λ cs. followed_by s.branches cs) a.2 (at_ahead (BranchesEnd calls op) (BranchesEnd calls op) (Word op) tokens ts behind (λ cs. followed_by s.branches cs) a s.left)

  pub branches_none_test : (behind : List Token) → Ahead (Word op) ts behind → Nothing (λ t. Spells t ⌢ JustWord THEN) behind → Nothing (BranchesEnd calls op) tokens
  branches_none_test behind a n = term_part_nothing (BranchesEnd calls op) (Word THEN) (λ (q : SubTree × Branches). Sub calls q.0 0 ⌢ BranchesEnd calls op q.1) tokens behind (λ q. followed_by s.branches (branch_and q.0 q.1.0 q.1.1)) (behind_word behind a) n

  behind_test : (behind inside : List Token) (p : RawTree) → Ahead (Word op) ts behind → Before Spells (Word THEN) behind p inside → Left (BranchesEnd calls op) tokens (λ (q : SubTree × Branches). Sub calls q.0 0 ⌢ BranchesEnd calls op q.1) inside (λ q. followed_by s.branches (branch_and p q.0 q.1))
  behind_test behind inside p a h = term_part (BranchesEnd calls op) (Word THEN) (λ (q : SubTree × Branches). Sub calls q.0 0 ⌢ BranchesEnd calls op q.1) refl tokens behind inside (λ q. followed_by s.branches (branch_and q.0 q.1.0 q.1.1)) p (behind_word behind a) h

  pub branches_none_body : (behind inside : List Token) (condition : Term) → Ahead (Word op) ts behind → FoundBefore (Word THEN) behind condition inside → Nothing (λ (s : SubTree). Sub calls s 0) inside → Nothing (BranchesEnd calls op) tokens
  branches_none_body behind inside condition a h n = sub_part_nothing calls (BranchesEnd calls op) (BranchesEnd calls op) tokens inside (λ q. followed_by s.branches (branch_and h.0 q.0 q.1)) (behind_test behind inside h.0 a h.1) n

  pub branches_go_on : (behind inside after : List Token) (condition : Term) (body : Statement) (new : BuiltOnes) → Ahead (Word op) ts behind → FoundBefore (Word THEN) behind condition inside → FoundSub calls 0 inside body after → length inside < length behind → length after < length inside → IsOpen new → ((bs : Branches) (p : RawTree) (t : SubTree) → IsBranches bs all → IsTerm p condition → IsStatement t body → IsBranches (and_branch bs p t) new) → BranchesSoFar calls op tokens new after
  branches_go_on behind inside after condition body new a h k l m o f = record {
    branches = and_branch s.branches h.0 k.0;
    built = f s.branches h.0 k.0 s.built h.2 k.2;
    has_no_else = o;
    left = left_same (BranchesEnd calls op) (BranchesEnd calls op) tokens after (λ cs. followed_by s.branches (branch_and h.0 k.0 cs)) (λ cs. followed_by (and_branch s.branches h.0 k.0) cs) (followed_more s.branches h.0 k.0)
        (sub_part calls (BranchesEnd calls op) (BranchesEnd calls op) (stops_branches calls op w) tokens inside after (λ q. followed_by s.branches (branch_and h.0 q.0 q.1)) k.0 (behind_test behind inside h.0 a h.1) k.1);
    no_longer = omega (arith, s.no_longer, l, m, ap length a.1);
  }

  behind_else : (behind : List Token) → Ahead (Word ELSE) ts behind → Left (BranchesEnd calls op) tokens (λ (t : SubTree). Sub calls t 0 ⌢ JustWord END) behind (λ t. followed_by s.branches (else_branch t))
  behind_else behind a = narrow_else calls (BranchesEnd calls op) op w tokens a.0 behind (λ cs. followed_by s.branches cs) a.2 (at_ahead (BranchesEnd calls op) (BranchesEnd calls op) (Word ELSE) tokens ts behind (λ cs. followed_by s.branches cs) a s.left)

  pub branches_none_else : (behind : List Token) → Ahead (Word ELSE) ts behind → Nothing (λ (t : SubTree). Sub calls t 0) behind → Nothing (BranchesEnd calls op) tokens
  branches_none_else behind a n = sub_end_none calls (BranchesEnd calls op) tokens behind (λ t. followed_by s.branches (else_branch t)) (behind_else behind a) n

  pub branches_none_end : (behind after : List Token) (body : Statement) → Ahead (Word ELSE) ts behind → FoundSub calls 0 behind body after → NotAhead (Word END) after → Nothing (BranchesEnd calls op) tokens
  branches_none_end behind after body a k n = sub_end_nothing calls (BranchesEnd calls op) tokens behind after (λ t. followed_by s.branches (else_branch t)) k.0 (behind_else behind a) k.1 n

  pub branches_else : (behind after rest : List Token) (body : Statement) (new : BuiltOnes) → Ahead (Word ELSE) ts behind → FoundSub calls 0 behind body after → Ahead (Word END) after rest → ((bs : Branches) (t : SubTree) → IsBranches bs all → IsStatement t body → IsBranches (and_else bs t) new) → (bs : Branches) × Longest (BranchesEnd calls op) tokens bs rest × IsBranches bs new
  branches_else behind after rest body new a k e f = (and_else s.branches k.0, sub_end_longest calls (BranchesEnd calls op) tokens behind after rest (λ t. followed_by s.branches (else_branch t)) k.0 (behind_else behind a) k.1 e, f s.branches k.0 s.built k.2)

  pub branches_done : (rest : List Token) → Ahead (Word END) ts rest → (bs : Branches) × Longest (BranchesEnd calls op) tokens bs rest × IsBranches bs all
  branches_done rest a =
      (s.branches, subst (λ bs. Longest (BranchesEnd calls op) tokens bs rest) (followed_none s.branches) (left_longest (BranchesEnd calls op) (BranchesEnd calls op) tokens (a.0 ∷ rest) rest (λ cs. followed_by s.branches cs) no_branches (at_ahead (BranchesEnd calls op) (BranchesEnd calls op) (Word END) tokens ts rest (λ cs. followed_by s.branches cs) a s.left) (branches_end calls op a.0 rest w a.2)), s.built)

  pub branches_stop : NotAhead (Word op) ts → NotAhead (Word ELSE) ts → NotAhead (Word END) ts → Nothing (BranchesEnd calls op) tokens
  branches_stop a b c = left_nothing (BranchesEnd calls op) (BranchesEnd calls op) tokens ts (λ cs. followed_by s.branches cs) s.left (branches_nothing calls op ts a b c)

-- ---- further choices
pub choices_begin : (calls : Bool) (tokens : List Token) (all : BuiltOthers) → IsChoices no_choices all → ChoicesSoFar calls tokens all tokens
choices_begin calls tokens all b = record { choices = no_choices; built = b; left = left_whole (ChoicesEnd calls) tokens; no_longer = omega arith }

module _ (calls : Bool) (tokens : List Token) (all : BuiltOthers) (ts : List Token) (s : ChoicesSoFar calls tokens all ts) where
  behind_or : (behind : List Token) → Ahead (Word OR_BRANCH) ts behind → Left (ChoicesEnd calls) tokens (λ (q : SubTree × Choices). Sub calls q.0 0 ⌢ ChoicesEnd calls q.1) behind (λ q. chosen_then s.choices (choice_and q.0 q.1))
  behind_or behind a = narrow_choice calls (ChoicesEnd calls) tokens a.0 behind (λ cs. chosen_then s.choices cs) a.2 (at_ahead (ChoicesEnd calls) (ChoicesEnd calls) (Word OR_BRANCH) tokens ts behind (λ cs. chosen_then s.choices cs) a s.left)

  pub choices_none_body : (behind : List Token) → Ahead (Word OR_BRANCH) ts behind → Nothing (λ (t : SubTree). Sub calls t 0) behind → Nothing (ChoicesEnd calls) tokens
  choices_none_body behind a n = sub_part_nothing calls (ChoicesEnd calls) (ChoicesEnd calls) tokens behind (λ q. chosen_then s.choices (choice_and q.0 q.1)) (behind_or behind a) n

  pub choices_go_on : (behind after : List Token) (body : Statement) (new : BuiltOthers) → Ahead (Word OR_BRANCH) ts behind → FoundSub calls 0 behind body after → length after < length behind → ((cs : Choices) (t : SubTree) → IsChoices cs all → IsStatement t body → IsChoices (and_choice cs t) new) → ChoicesSoFar calls tokens new after
  choices_go_on behind after body new a k l f = record {
    choices = and_choice s.choices k.0;
    built = f s.choices k.0 s.built k.2;
    left = left_same (ChoicesEnd calls) (ChoicesEnd calls) tokens after (λ cs. chosen_then s.choices (choice_and k.0 cs)) (λ cs. chosen_then (and_choice s.choices k.0) cs) (chosen_more s.choices k.0)
        (sub_part calls (ChoicesEnd calls) (ChoicesEnd calls) (stops_choices calls) tokens behind after (λ q. chosen_then s.choices (choice_and q.0 q.1)) k.0 (behind_or behind a) k.1);
    no_longer = omega (arith, s.no_longer, l, ap length a.1);
  }

  pub choices_done : (rest : List Token) → Ahead (Word END) ts rest → (cs : Choices) × Longest (ChoicesEnd calls) tokens cs rest × IsChoices cs all
  choices_done rest a =
      (s.choices, subst (λ cs. Longest (ChoicesEnd calls) tokens cs rest) (chosen_none s.choices) (left_longest (ChoicesEnd calls) (ChoicesEnd calls) tokens (a.0 ∷ rest) rest (λ cs. chosen_then s.choices cs) no_choices (at_ahead (ChoicesEnd calls) (ChoicesEnd calls) (Word END) tokens ts rest (λ cs. chosen_then s.choices cs) a s.left) (choices_end calls a.0 rest a.2)), s.built)

  pub choices_stop : NotAhead (Word OR_BRANCH) ts → NotAhead (Word END) ts → Nothing (ChoicesEnd calls) tokens
  choices_stop a b = left_nothing (ChoicesEnd calls) (ChoicesEnd calls) tokens ts (λ cs. chosen_then s.choices cs) s.left (choices_nothing calls ts a b)

-- ---- the end of a loop
invariant_left : (tokens inside : List Token) → Ahead (Word INVARIANT) tokens inside → Left LoopEnd tokens (λ (q : RawTree × RawTree). Spells q.0 ⌢ (JustWord VARIANT ⌢ (Spells q.1 ⌢ JustWord END))) inside (λ q. q)
invariant_left tokens inside a = left_ahead LoopEnd (Word INVARIANT) (λ (q : RawTree × RawTree). Spells q.0 ⌢ (JustWord VARIANT ⌢ (Spells q.1 ⌢ JustWord END))) tokens tokens inside (λ q. q) (left_whole LoopEnd tokens) a

pub loop_end_none : (tokens : List Token) → NotAhead (Word INVARIANT) tokens → Nothing LoopEnd tokens
loop_end_none tokens n = nothing_begins (Word INVARIANT) (λ (q : RawTree × RawTree). Spells q.0 ⌢ (JustWord VARIANT ⌢ (Spells q.1 ⌢ JustWord END))) tokens n

pub loop_end_none_invariant : (tokens inside : List Token) → Ahead (Word INVARIANT) tokens inside → Nothing (λ t. Spells t ⌢ JustWord VARIANT) inside → Nothing LoopEnd tokens
loop_end_none_invariant tokens inside a n = term_part_nothing LoopEnd (Word VARIANT) (λ (v : RawTree). Spells v ⌢ JustWord END) tokens inside (λ q. q) (invariant_left tokens inside a) n

variant_left : (tokens inside behind : List Token) (i : RawTree) → Ahead (Word INVARIANT) tokens inside → Before Spells (Word VARIANT) inside i behind → Left LoopEnd tokens (λ (v : RawTree). Spells v ⌢ JustWord END) behind (λ v. (i, v))
variant_left tokens inside behind i a h = term_part LoopEnd (Word VARIANT) (λ (v : RawTree). Spells v ⌢ JustWord END) refl tokens inside behind (λ q. q) i (invariant_left tokens inside a) h

pub loop_end_none_variant : (tokens inside behind : List Token) (invariant : Term) → Ahead (Word INVARIANT) tokens inside → FoundBefore (Word VARIANT) inside invariant behind → Nothing (λ t. Spells t ⌢ JustWord END) behind → Nothing LoopEnd tokens
loop_end_none_variant tokens inside behind invariant a h n = left_nothing LoopEnd (λ (v : RawTree). Spells v ⌢ JustWord END) tokens behind (λ v. (h.0, v)) (variant_left tokens inside behind h.0 a h.1) n

before_longest : (tokens rest : List Token) (v : RawTree) → Before Spells (Word END) tokens v rest → Longest (λ (v : RawTree). Spells v ⌢ JustWord END) tokens v rest
before_longest tokens rest v h =
    left_longest (λ (v : RawTree). Spells v ⌢ JustWord END) (λ (_ : Unit {0}). JustWord END) tokens (h.sign ∷ rest) rest (λ _. v) tt
    (left_part (λ (v : RawTree). Spells v ⌢ JustWord END) Spells (λ (v : RawTree). Spells v ⌢ JustWord END) (λ (_ : Unit {0}). JustWord END) (λ x y. x) ends_term (λ t. term t 0) (λ t u ts k l. one_for_its_tokens ts t u k l) (stops_on_last ends_term (Word END) refl) (λ z back k. (z, tt, refl, k)) (λ x y back k. k) tokens tokens (h.sign ∷ rest) (λ v. v) v (left_whole (λ (v : RawTree). Spells v ⌢ JustWord END) tokens) h.found)
    (longest_token (Word END) h.sign rest h.same)

pub loop_end_found : (tokens inside behind rest : List Token) (invariant variant : Term) → Ahead (Word INVARIANT) tokens inside → FoundBefore (Word VARIANT) inside invariant behind → FoundBefore (Word END) behind variant rest → (q : RawTree × RawTree) × Longest LoopEnd tokens q rest × IsTerm q.0 invariant × IsTerm q.1 variant
loop_end_found tokens inside behind rest invariant variant a h k = ((h.0, k.0), left_longest LoopEnd (λ (v : RawTree). Spells v ⌢ JustWord END) tokens behind rest (λ v. (h.0, v)) k.0 (variant_left tokens inside behind h.0 a h.1) (before_longest behind rest k.0 k.1), h.2, k.2)

-- ---- atoms
pub around_found : (calls : Bool) (tokens inside after rest : List Token) (at : ℕ) (block : Around) (body new : Statement) → at ≡ start tokens → (form : SubTree → SubNode) × IsAround form block × Left (Atom calls) tokens (λ (s : SubTree). Sub calls s 0 ⌢ JustWord END) inside (λ s. sub (start tokens) (form s)) → FoundSub calls 0 inside body after → Ahead (Word END) after rest → ((s : SubTree) (form : SubTree → SubNode) → IsStatement s body → IsAround form block → IsStatement (sub at (form s)) new) → FoundSub calls 2 tokens new rest
around_found calls tokens inside after rest at block body new e o k a f = (sub (start tokens) (o.0 k.0), sub_end_longest calls (Atom calls) tokens inside after rest (λ s. sub (start tokens) (o.0 s)) k.0 o.2 k.1 a, subst (λ n. IsStatement (sub n (o.0 k.0)) new) e (f k.0 o.0 k.2 o.1))

pub around_none_body : (calls : Bool) (tokens inside : List Token) (block : Around) → (form : SubTree → SubNode) × IsAround form block × Left (Atom calls) tokens (λ (s : SubTree). Sub calls s 0 ⌢ JustWord END) inside (λ s. sub (start tokens) (form s)) → Nothing (λ (s : SubTree). Sub calls s 0) inside → Nothing (Atom calls) tokens
around_none_body calls tokens inside block o n = sub_end_none calls (Atom calls) tokens inside (λ s. sub (start tokens) (o.0 s)) o.2 n

pub around_none_end : (calls : Bool) (tokens inside after : List Token) (block : Around) (body : Statement) → (form : SubTree → SubNode) × IsAround form block × Left (Atom calls) tokens (λ (s : SubTree). Sub calls s 0 ⌢ JustWord END) inside (λ s. sub (start tokens) (form s)) → FoundSub calls 0 inside body after → NotAhead (Word END) after → Nothing (Atom calls) tokens
around_none_end calls tokens inside after block body o k n = sub_end_nothing calls (Atom calls) tokens inside after (λ s. sub (start tokens) (o.0 s)) k.0 o.2 k.1 n

-- a substitution and what stands behind it
pub block_none_body : (calls : Bool) {B : Type 0} (Behind : B → Piece) (tokens inside : List Token) (make : SubTree × B → SubTree) → Left (Atom calls) tokens (λ (q : SubTree × B). Sub calls q.0 0 ⌢ Behind q.1) inside make → Nothing (λ (s : SubTree). Sub calls s 0) inside → Nothing (Atom calls) tokens
block_none_body calls Behind tokens inside make l n = sub_part_nothing calls (Atom calls) Behind tokens inside make l n

block_longest : (calls : Bool) {B : Type 0} (Behind : B → Piece) → StopsOn ends_list Behind → (tokens inside after rest : List Token) (make : SubTree × B → SubTree) (s : SubTree) (y : B) → Left (Atom calls) tokens (λ (q : SubTree × B). Sub calls q.0 0 ⌢ Behind q.1) inside make → Longest (λ (s : SubTree). Sub calls s 0) inside s after → Longest Behind after y rest → Longest (Atom calls) tokens (make (s, y)) rest
block_longest calls Behind stops tokens inside after rest make s y l h k = left_longest (Atom calls) Behind tokens after rest (λ y. make (s, y)) y (sub_part calls (Atom calls) Behind stops tokens inside after make s l h) k

block_nothing : (calls : Bool) {B : Type 0} (Behind : B → Piece) → StopsOn ends_list Behind → (tokens inside after : List Token) (make : SubTree × B → SubTree) (s : SubTree) → Left (Atom calls) tokens (λ (q : SubTree × B). Sub calls q.0 0 ⌢ Behind q.1) inside make → Longest (λ (s : SubTree). Sub calls s 0) inside s after → Nothing Behind after → Nothing (Atom calls) tokens
block_nothing calls Behind stops tokens inside after make s l h n = left_nothing (Atom calls) Behind tokens after (λ y. make (s, y)) (sub_part calls (Atom calls) Behind stops tokens inside after make s l h) n

pub tested_found : (calls : Bool) (test : Test) (tokens inside after rest : List Token) (at : ℕ) (condition : Term) (body new : Statement) (branches : BuiltOnes) → at ≡ start tokens → (p : RawTree) × IsTerm p condition × Left (Atom calls) tokens (λ (q : SubTree × Branches). Sub calls q.0 0 ⌢ BranchesEnd calls (word_of test) q.1) inside (λ q. sub (start tokens) (tested_node test p q.0 q.1)) → FoundSub calls 0 inside body after → (bs : Branches) × Longest (BranchesEnd calls (word_of test)) after bs rest × IsBranches bs branches → ((p : RawTree) (s : SubTree) (bs : Branches) → IsStatement s body → IsTerm p condition → IsBranches bs branches → IsStatement (sub at (tested_node test p s bs)) new) → FoundSub calls 2 tokens new rest
tested_found calls test tokens inside after rest at condition body new branches e o k b f = (sub (start tokens) (tested_node test o.0 k.0 b.0), block_longest calls (BranchesEnd calls (word_of test)) (stops_branches calls (word_of test) (branch_word test)) tokens inside after rest (λ q. sub (start tokens) (tested_node test o.0 q.0 q.1)) k.0 b.0 o.2 k.1 b.1, subst (λ n. IsStatement (sub n (tested_node test o.0 k.0 b.0)) new) e (f o.0 k.0 b.0 k.2 o.1 b.2))

pub tested_none : (calls : Bool) (test : Test) (tokens inside after : List Token) (condition : Term) (body : Statement) → (p : RawTree) × IsTerm p condition × Left (Atom calls) tokens (λ (q : SubTree × Branches). Sub calls q.0 0 ⌢ BranchesEnd calls (word_of test) q.1) inside (λ q. sub (start tokens) (tested_node test p q.0 q.1)) → FoundSub calls 0 inside body after → Nothing (BranchesEnd calls (word_of test)) after → Nothing (Atom calls) tokens
tested_none calls test tokens inside after condition body o k n = block_nothing calls (BranchesEnd calls (word_of test)) (stops_branches calls (word_of test) (branch_word test)) tokens inside after (λ q. sub (start tokens) (tested_node test o.0 q.0 q.1)) k.0 o.2 k.1 n

pub choice_found : (calls : Bool) (tokens inside after rest : List Token) (at : ℕ) (body new : Statement) (choices : BuiltOthers) → at ≡ start tokens → Left (Atom calls) tokens (λ (q : SubTree × Choices). Sub calls q.0 0 ⌢ ChoicesEnd calls q.1) inside (λ q. sub (start tokens) (sub_choice q.0 q.1)) → FoundSub calls 0 inside body after → (cs : Choices) × Longest (ChoicesEnd calls) after cs rest × IsChoices cs choices → ((s : SubTree) (cs : Choices) → IsStatement s body → IsChoices cs choices → IsStatement (sub at (sub_choice s cs)) new) → FoundSub calls 2 tokens new rest
choice_found calls tokens inside after rest at body new choices e o k b f = (sub (start tokens) (sub_choice k.0 b.0), block_longest calls (ChoicesEnd calls) (stops_choices calls) tokens inside after rest (λ q. sub (start tokens) (sub_choice q.0 q.1)) k.0 b.0 o k.1 b.1, subst (λ n. IsStatement (sub n (sub_choice k.0 b.0)) new) e (f k.0 b.0 k.2 b.2))

pub choice_none : (calls : Bool) (tokens inside after : List Token) (body : Statement) → Left (Atom calls) tokens (λ (q : SubTree × Choices). Sub calls q.0 0 ⌢ ChoicesEnd calls q.1) inside (λ q. sub (start tokens) (sub_choice q.0 q.1)) → FoundSub calls 0 inside body after → Nothing (ChoicesEnd calls) after → Nothing (Atom calls) tokens
choice_none calls tokens inside after body o k n = block_nothing calls (ChoicesEnd calls) (stops_choices calls) tokens inside after (λ q. sub (start tokens) (sub_choice q.0 q.1)) k.0 o k.1 n

pub loop_found : (calls : Bool) (tokens inside after rest : List Token) (at : ℕ) (condition invariant variant : Term) (body new : Statement) → at ≡ start tokens → (p : RawTree) × IsTerm p condition × Left (Atom calls) tokens (λ (q : SubTree × (RawTree × RawTree)). Sub calls q.0 0 ⌢ LoopEnd q.1) inside (λ q. sub (start tokens) (sub_while p q.0 q.1.0 q.1.1)) → FoundSub calls 0 inside body after → (q : RawTree × RawTree) × Longest LoopEnd after q rest × IsTerm q.0 invariant × IsTerm q.1 variant → ((p : RawTree) (s : SubTree) (i v : RawTree) → IsStatement s body → IsTerm p condition → IsTerm i invariant → IsTerm v variant → IsStatement (sub at (sub_while p s i v)) new) → FoundSub calls 2 tokens new rest
loop_found calls tokens inside after rest at condition invariant variant body new e o k b f = (sub (start tokens) (sub_while o.0 k.0 b.0.0 b.0.1), block_longest calls LoopEnd stops_loop_end tokens inside after rest (λ q. sub (start tokens) (sub_while o.0 q.0 q.1.0 q.1.1)) k.0 b.0 o.2 k.1 b.1, subst (λ n. IsStatement (sub n (sub_while o.0 k.0 b.0.0 b.0.1)) new) e (f o.0 k.0 b.0.0 b.0.1 k.2 o.1 b.2 b.3))

pub loop_none : (calls : Bool) (tokens inside after : List Token) (condition : Term) (body : Statement) → (p : RawTree) × IsTerm p condition × Left (Atom calls) tokens (λ (q : SubTree × (RawTree × RawTree)). Sub calls q.0 0 ⌢ LoopEnd q.1) inside (λ q. sub (start tokens) (sub_while p q.0 q.1.0 q.1.1)) → FoundSub calls 0 inside body after → Nothing LoopEnd after → Nothing (Atom calls) tokens
loop_none calls tokens inside after condition body o k n = block_nothing calls LoopEnd stops_loop_end tokens inside after (λ q. sub (start tokens) (sub_while o.0 q.0 q.1.0 q.1.1)) k.0 o.2 k.1 n
