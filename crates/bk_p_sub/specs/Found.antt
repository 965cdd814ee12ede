-- What a private function of the reader answers: the longest thing that is written in front of the tokens, or that none is.
use Rattle.std.specs.Prelude.{◌≡◌, ℕ, Bool, nat_eq, ◌||◌, List, ◌∷◌, Option, Result, IfOk, MatchOption}
use denote.Ref.{Bor}
use Rattle.bk_form.specs.declared.token.Token.{Token}
use Rattle.bk_form.specs.declared.token.TokenKind.{TokenKind}
use Rattle.bk_form.specs.declared.token.TokenKind.TheVariants.{Name, Word}
use Rattle.bk_ops.specs.declared.word.TheConstants.{END, PRE, THEN, IF, SELECT, IN, WHILE, DO, INVARIANT, VARIANT, ASSERT}
use Rattle.bk_ops.specs.declared.sign.TheConstants.{OUTPUTS}
use Rattle.bk_raw.specs.Grammar.Pieces.{JustSign, JustWord, ◌⌢◌, InParentheses}
use Rattle.bk_raw.specs.Trees.RawTree.{RawTree, RawTrees}
use Rattle.bk_raw.specs.Grammar.Reading.{start}
use Rattle.bk_raw.specs.Grammar.Spelling.{Names, Spells, Terms}
use Rattle.bk_raw.specs.Trees.SubTree.{SubTree, sub, SubNode, sub_call, sub_choice, sub_while, Branches, Choices}
use Rattle.bk_raw.specs.Grammar.SubSpelling.{Applied, Called, Sub, Branched, Chosen}
use Rattle.bk_raw.specs.declared.term.RawName.{RawName}
use Rattle.bk_p_expr.specs.Fronts.{Longest, Nothing}
use Rattle.bk_p_expr.specs.Pieces.{IsTerms}
use Rattle.bk_p_expr.specs.declared.piece.Terms.{Terms as Built}
use Rattle.bk_p_sub.specs.Longest.{Left}
use Rattle.bk_p_sub.specs.Statements.{IsStatement, IsTerm, IsAround, IsBranches, IsChoices, tested_node, word_of}
use Rattle.bk_p_sub.specs.declared.branches.Branches.{Branches as BuiltOnes}
use Rattle.bk_p_sub.specs.declared.branches.Choices.{Choices as BuiltOthers}
use Rattle.bk_p_sub.specs.declared.opening.Opening.{Opening}
use Rattle.bk_p_sub.specs.declared.opening.Opening.TheVariants.{Closed, Around, Tested, Choice, While}
use Rattle.bk_p_sub.specs.declared.opening.Guard.{Guard}
use Rattle.bk_p_sub.specs.declared.opening.Guard.TheVariants.{Pre, Assert, If, Select, While as GuardWhile}
use Rattle.bk_p_sub.specs.declared.statement.Around.TheVariants.{Under}
use Rattle.bk_p_sub.specs.declared.statement.Head.TheVariants.{Pre as PreHead, Assert as AssertHead}
use Rattle.bk_p_sub.specs.declared.statement.Test.TheVariants.{If as IfTest, Select as SelectTest}
use Rattle.bk_p_sub.specs.declared.statement.Statement.{Statement}
use Rattle.bk_p_sub.specs.declared.term.Term.{Term}

-- ---- tokens in front
-- a token of this kind is in front, and the rest stands after it
abbrev pub Ahead : TokenKind → List Token → List Token → Type 0
Ahead kind tokens rest = (t : Token) × (tokens ≡ t ∷ rest) × (t.kind ≡ kind)

-- no token of this kind is in front
abbrev pub NotAhead : TokenKind → List Token → Type 0
NotAhead kind tokens = (t : Token) (rest : List Token) → tokens ≡ t ∷ rest → t.kind ≡ kind → ⊥

-- a name is in front
abbrev pub BeginsWithName : List Token → Type 0
BeginsWithName tokens = (x : List ℕ) × (rest : List Token) × Ahead (Name x) tokens rest

-- the longest one in front of the tokens, and a token of this kind directly after it
pub record Before {A : Type 0} (Written : A → List Token →
    Type 0) (ahead : TokenKind) (tokens : List Token) (x : A) (rest : List Token) : Type 0 where
  pub sign : Token
  pub same : sign.kind ≡ ahead
  pub found : Longest Written tokens x (sign ∷ rest)

-- ---- terms
-- a word that stands after a term in a block
abbrev pub is_behind_term : ℕ → Bool
is_behind_term op = nat_eq op THEN || nat_eq op IN || nat_eq op DO || nat_eq op VARIANT || nat_eq op END

-- the longest term in front, with this sign or word after it
abbrev pub FoundBefore : TokenKind → List Token → Term → List Token → Type 0
FoundBefore ahead tokens term rest = (t : RawTree) × Before Spells ahead tokens t rest × IsTerm t term

-- the longest list of terms in front
abbrev pub FoundTerms : List Token → Built → List Token → Type 0
FoundTerms tokens terms rest = (us : RawTrees) × Longest Terms tokens us rest × IsTerms us terms

-- a term in parentheses
abbrev pub Enclosed : RawTree → List Token → Type 0
Enclosed t = InParentheses (Spells t)

-- the longest one in front
abbrev pub FoundEnclosed : List Token → Term → List Token → Type 0
FoundEnclosed tokens term rest = (t : RawTree) × Longest Enclosed tokens t rest × IsTerm t term

-- ---- substitutions
-- the answer is the longest substitution in front of those that may stand in a place that asks so much, or that none is.
-- Operations are called in it where `calls` says so
abbrev pub Reads : {E : Type 0} → (calls : Bool) → ℕ → List Token → Result (Option (Statement × Bor (List Token))) E → Type 0
Reads calls m tokens result = IfOk result
    (λ r. MatchOption r (Nothing (λ s. Sub calls s m) tokens)
    (λ p. (s : SubTree) × Longest (λ s. Sub calls s m) tokens s p.1.now × IsStatement s p.0))

-- an atom
abbrev pub Atom : (calls : Bool) → SubTree → List Token → Type 0
Atom calls s = Sub calls s 2

-- what stands after the first substitution of a block
abbrev pub BranchesEnd : (calls : Bool) → ℕ → Branches → List Token → Type 0
BranchesEnd calls op bs = Branched calls op bs ⌢ JustWord END

-- the tokens are further branches of CHOICE and END
abbrev pub ChoicesEnd : (calls : Bool) → Choices → List Token → Type 0
ChoicesEnd calls cs = Chosen calls cs ⌢ JustWord END

-- the tokens are what follows the body of a loop: INVARIANT, VARIANT and END
abbrev pub LoopEnd : RawTree × RawTree → List Token → Type 0
LoopEnd q = JustWord INVARIANT ⌢ Spells q.0 ⌢ JustWord VARIANT ⌢ Spells q.1 ⌢ JustWord END

-- the answer is the longest of these in front, or that none is
abbrev pub ReadsBranches : {E : Type 0} → (calls : Bool) → ℕ → List Token → Result (Option (BuiltOnes × Bor (List Token))) E → Type 0
ReadsBranches calls op tokens result = IfOk result (λ r.
    MatchOption r (Nothing (BranchesEnd calls op) tokens)
    (λ p. (bs : Branches) × Longest (BranchesEnd calls op) tokens bs p.1.now × IsBranches bs p.0))

-- a reading answers the longest end of a CHOICE that begins the tokens, or that there is none
abbrev pub ReadsChoices : {E : Type 0} → (calls : Bool) → List Token → Result (Option (BuiltOthers × Bor (List Token))) E → Type 0
ReadsChoices calls tokens result = IfOk result
    (λ r. MatchOption r (Nothing (ChoicesEnd calls) tokens)
    (λ p. (cs : Choices) × Longest (ChoicesEnd calls) tokens cs p.1.now × IsChoices cs p.0))

-- a reading answers the longest end of a loop that begins the tokens, or that there is none
abbrev pub ReadsLoopEnd : {E : Type 0} → List Token → Result (Option (Term × Term × Bor (List Token))) E → Type 0
ReadsLoopEnd tokens result = IfOk result (λ r. MatchOption r (Nothing LoopEnd tokens)
    (λ p. (q : RawTree × RawTree) × Longest LoopEnd tokens q p.2.now × IsTerm q.0 p.0 × IsTerm q.1 p.1))

-- ---- calls
-- an operation and its arguments
abbrev pub Application : RawName × RawTrees → List Token → Type 0
Application q = Applied q.0 q.1

-- a call: its outputs, and the operation with its arguments
abbrev pub Call : List RawName × (RawName × RawTrees) → List Token → Type 0
Call q = Called q.0 q.1.0 q.1.1

-- terms in parentheses
abbrev pub Arguments : RawTrees → List Token → Type 0
Arguments us = InParentheses (Terms us)

-- the longest ones in front
abbrev pub FoundArguments : List Token → Built → List Token → Type 0
FoundArguments tokens terms rest = (us : RawTrees) × Longest Arguments tokens us rest × IsTerms us terms

-- the longest operation with arguments in front
abbrev pub FoundApplication : List Token → RawName → Built → List Token → Type 0
FoundApplication tokens name terms rest = (us : RawTrees) × Longest Application tokens (name, us) rest × IsTerms us terms

-- the longest of these calls in front
abbrev pub FoundCall : (List RawName × (RawName × RawTrees) → List Token → Type 0) → List Token → Statement → List Token → Type 0
FoundCall Written tokens statement rest = (q : List RawName × (RawName × RawTrees))
    × Longest Written tokens q rest × IsStatement (sub (start tokens) (sub_call q.0 q.1.0 q.1.1)) statement

-- the answer is the longest call in front, or that none is
abbrev pub ReadsCall : {E : Type 0} → List Token → Result (Option (Statement × Bor (List Token))) E → Type 0
ReadsCall tokens result = IfOk result (λ r. MatchOption r (Nothing Call tokens) (λ p. FoundCall Call tokens p.0 p.1.now))

-- a call with outputs
abbrev pub CallWithOutputs : List RawName × (RawName × RawTrees) → List Token → Type 0
CallWithOutputs q = Names q.0 ⌢ JustSign OUTPUTS ⌢ Application q.1

-- the answer is the longest call with outputs in front, or that none is
abbrev pub ReadsCallWithOutputs : {E : Type 0} → List Token → Result (Option (Statement × Bor (List Token))) E → Type 0
ReadsCallWithOutputs tokens result = IfOk result
    (λ r. MatchOption r (Nothing CallWithOutputs tokens) (λ p. FoundCall CallWithOutputs tokens p.0 p.1.now))

-- ---- openings
-- the opening of an atom is read, up to this rest
abbrev pub Opens : (calls : Bool) → List Token → Opening → List Token → Type 0
Opens calls tokens (Closed statement) rest = (s : SubTree) × Longest (Atom calls) tokens s rest × IsStatement s statement
Opens calls tokens (Around block) rest = (form : SubTree → SubNode) × IsAround form block
    × Left (Atom calls) tokens (λ (s : SubTree). Sub calls s 0 ⌢ JustWord END) rest (λ s. sub (start tokens) (form s))
Opens calls tokens (Tested test condition) rest = (p : RawTree) × IsTerm p condition × Left (Atom calls) tokens
    (λ (q : SubTree × Branches). Sub calls q.0 0 ⌢ BranchesEnd calls (word_of test) q.1) rest
    (λ q. sub (start tokens) (tested_node test p q.0 q.1))
Opens calls tokens Choice rest =
    Left (Atom calls) tokens (λ (q : SubTree × Choices). Sub calls q.0 0 ⌢ ChoicesEnd calls q.1) rest
    (λ q. sub (start tokens) (sub_choice q.0 q.1))
Opens calls tokens (While condition) rest = (p : RawTree) × IsTerm p condition × Left (Atom calls) tokens
    (λ (q : SubTree × (RawTree × RawTree)). Sub calls q.0 0 ⌢ LoopEnd q.1) rest (λ q. sub (start tokens) (sub_while p q.0 q.1.0 q.1.1))

-- the answer is how the atom in front begins, or that none is there
abbrev pub Begins : {E : Type 0} → (calls : Bool) → List Token → Result (Option (Opening × Bor (List Token))) E → Type 0
Begins calls tokens result = IfOk result (λ r. MatchOption r (Nothing (Atom calls) tokens) (λ p. Opens calls tokens p.0 p.1.now))

-- ---- words with a test after them
-- the word
abbrev pub guard_kind : Guard → TokenKind
guard_kind Pre = Word PRE
guard_kind Assert = Word ASSERT
guard_kind If = Word IF
guard_kind Select = Word SELECT
guard_kind GuardWhile = Word WHILE

-- the word after the test
abbrev pub guard_end : Guard → ℕ
guard_end GuardWhile = DO
guard_end _ = THEN

-- how the block begins, with this test
abbrev pub guard_begins : Guard → Term → Opening
guard_begins Pre test = Around (Under PreHead test)
guard_begins Assert test = Around (Under AssertHead test)
guard_begins If test = Tested IfTest test
guard_begins Select test = Tested SelectTest test
guard_begins GuardWhile test = While test
