-- The sample: a development with n variables, scripts of proof for it, and calls of it.
-- The machine Sample keeps x1 to xn within 0..100. For each of them it has an operation that adds to it and one that reads it.
use Rattle.std.specs.Prelude.{ℕ, ◌+◌, ◌*◌, ◌%◌, List, [], ◌∷◌, ◌++◌, codes, decimal}
use Rattle.std.specs.List.{flat_map, join_by, range_with_len, repeat}
use Rattle.bk_io.specs.Files.{Files}

-- the texts of a development's files by name, and the text of a call script
pub record SampleFiles : Type 0 where
  pub files : Files
  pub calls : List ℕ

-- all of them as files: the call script has the name sample.calls
abbrev pub shelved : SampleFiles → Files
shelved sample = sample.files ++ (codes "sample.calls", sample.calls) ∷ []

-- ---- lists
-- the numbers of n variables
abbrev pub numbers : ℕ → List ℕ
numbers n = range_with_len 1 n

-- what stands once for each of n variables, with a text between each two
abbrev pub list : (part : ℕ → List ℕ) (between : List ℕ) → ℕ → List ℕ
list part between n = join_by part between (numbers n)

-- the name of the i-th variable
abbrev pub variable : ℕ → List ℕ
variable i = codes "x" ++ decimal i

-- the names of the first n variables, as a list
abbrev pub variables : ℕ → List ℕ
variables n = list variable (codes ", ") n

-- the conjunct that types the i-th variable
abbrev pub range : ℕ → List ℕ
range i = codes "x" ++ decimal i ++ codes " : 0..100"

-- these conjuncts of the first n variables
abbrev pub ranges : ℕ → List ℕ
ranges n = list range (codes " &\n  ") n

-- ---- the project
-- the project file of the sample
abbrev pub project_text : List ℕ
project_text =
    codes "machine Sample.mch\n" ++
    codes "implementation Sample_i.imp\n" ++
    codes "proofs Sample.prf\n"

-- ---- the machine
-- what each variable starts with
abbrev pub zero_value : ℕ → List ℕ
zero_value i = codes "0"

-- a start value for each of the first n variables
abbrev pub zeros : ℕ → List ℕ
zeros n = list zero_value (codes ", ") n

-- the two operations of the machine on the i-th variable: one adds, one answers
abbrev pub machine_operations : ℕ → List ℕ
machine_operations i =
    codes "  add_" ++ decimal i ++ codes "(k) = PRE k : 1..10 & x" ++ decimal i
    ++ codes " + k <= 100 THEN x" ++ decimal i ++ codes " := x" ++ decimal i ++ codes " + k END ;\n" ++
    codes "  r <-- get_" ++ decimal i ++ codes " = r := x" ++ decimal i

-- the text of the sample's machine
unfoldable pub machine_text : ℕ → List ℕ
machine_text n =
    codes "MACHINE Sample\n" ++
    codes "VARIABLES\n  " ++ variables n ++ codes "\n" ++
    codes "INVARIANT\n  " ++ ranges n ++ codes "\n" ++
    codes "INITIALISATION\n  " ++ variables n ++ codes " := " ++ zeros n ++ codes "\n" ++
    codes "OPERATIONS\n" ++ list machine_operations (codes " ;\n") n ++ codes "\n" ++
    codes "END\n"

-- ---- the implementation
-- the assignment that starts the i-th variable of the implementation
abbrev pub assignment : ℕ → List ℕ
assignment i = codes "x" ++ decimal i ++ codes " := 0"

-- these assignments of the first n variables, in sequence
abbrev pub assignments : ℕ → List ℕ
assignments n = list assignment (codes " ;\n  ") n

-- the two operations of the implementation on the i-th variable
abbrev pub implementation_operations : ℕ → List ℕ
implementation_operations i =
    codes "  add_" ++ decimal i ++ codes "(k) = x" ++ decimal i ++ codes " := x" ++ decimal i ++ codes " + k ;\n" ++
    codes "  r <-- get_" ++ decimal i ++ codes " = r := x" ++ decimal i

-- the text of the sample's implementation
unfoldable pub implementation_text : ℕ → List ℕ
implementation_text n =
    codes "IMPLEMENTATION Sample_i REFINES Sample\n" ++
    codes "CONCRETE_VARIABLES\n  " ++ variables n ++ codes "\n" ++
    codes "INVARIANT\n  " ++ ranges n ++ codes "\n" ++
    codes "INITIALISATION\n  " ++ assignments n ++ codes "\n" ++
    codes "OPERATIONS\n" ++ list implementation_operations (codes " ;\n") n ++ codes "\n" ++
    codes "END\n"

-- ---- the proofs
-- The obligations of add_i have these hypotheses, by their numbers.
-- At the machine: from 1 xj$0 : 0..100 for each variable xj; n + 1 k : 1..10; n + 2 xi$0 + k <= 100.
-- At the implementation: from 1 xj$0 : 0..100, from n + 1 xj$1 : 0..100, and from 2 * n + 1 xj$1 = xj$0, each for each variable xj;
-- 3 * n + 1 k : 1..10; 3 * n + 2 xi$0 + k <= 100.
-- The goals are first those of the invariant and then those of the links. The i-th of each is not obvious.

-- a number that is not above 0 is at most xi + k: by the range of xi and that of k
unfoldable pub least_rule : (xi k : ℕ) → List ℕ
least_rule xi k = codes "lin " ++ decimal xi ++ codes ", " ++ decimal k ++ codes " : 1 * 1 + 1 * 3 + 1 * 5"

-- xi + k is within 0..100: by the same for the lower bound, and then for the upper
unfoldable pub range_rules : (i level xi k : ℕ) → List ℕ
range_rules i level xi k =
    codes "law O5(x" ++ decimal i ++ codes "$" ++ decimal level ++ codes " + k, 0, 100) goal ; and ; " ++ least_rule xi k

-- the machine keeps its invariant: the upper bound is what the precondition says
unfoldable pub machine_script : (n i : ℕ) → List ℕ
machine_script n i =
    codes "proof Sample.add_" ++ decimal i ++ codes "." ++ decimal i ++ codes "\n" ++
    codes "  " ++ range_rules i 0 i (n + 1) ++ codes " ; hyp " ++ decimal (n + 2) ++ codes "\n" ++
    codes "end\n"

-- the implementation keeps its invariant: the upper bound is what the precondition says of the machine's variable
unfoldable pub implementation_script : (n i : ℕ) → List ℕ
implementation_script n i =
    codes "proof Sample_i.add_" ++ decimal i ++ codes "." ++ decimal i ++ codes "\n" ++
    codes "  " ++ range_rules i 1 (n + i) (3 * n + 1) ++ codes " ;\n" ++
    codes "  lin " ++ decimal (2 * n + i) ++ codes ", " ++ decimal (3 * n + 2) ++ codes " : 1 * 1 + 1 * 3 + 1 * 4\n" ++
    codes "end\n"

-- the variables of the two stay equal
unfoldable pub link_script : (n i : ℕ) → List ℕ
link_script n i =
    codes "proof Sample_i.add_" ++ decimal i ++ codes "." ++ decimal (n + i) ++ codes "\n" ++
    codes "  eq " ++ decimal (2 * n + i) ++ codes " goal 1 1 ; same\n" ++
    codes "end\n"

-- the sum is not below MININT
unfoldable pub least_script : (n i : ℕ) → List ℕ
least_script n i =
    codes "proof Sample_i.add_" ++ decimal i ++ codes ".chk.1\n" ++
    codes "  " ++ least_rule (n + i) (3 * n + 1) ++ codes "\n" ++
    codes "end\n"

-- the sum is not above MAXINT
unfoldable pub greatest_script : (n i : ℕ) → List ℕ
greatest_script n i =
    codes "proof Sample_i.add_" ++ decimal i ++ codes ".chk.2\n" ++
    codes "  lin " ++ decimal (n + i) ++ codes ", " ++ decimal (3 * n + 1) ++ codes " : 1 * 2 + 1 * 4 + 1 * 5\n" ++
    codes "end\n"

-- the five scripts that the i-th variable needs
unfoldable pub scripts : (n i : ℕ) → List ℕ
scripts n i = machine_script n i ++ implementation_script n i ++ link_script n i ++ least_script n i ++ greatest_script n i

-- the text of the sample's proof file
unfoldable pub proof_text : ℕ → List ℕ
proof_text n = flat_map (scripts n) (numbers n)

-- ---- the calls
-- a call that adds to the i-th variable a number from 1 to 10
unfoldable pub addition : ℕ → List ℕ
addition i = codes "add_" ++ decimal i ++ codes "(" ++ decimal (1 + i % 10) ++ codes ")\n"

-- xi is added to ten times and then read
unfoldable pub calls_of : ℕ → List ℕ
calls_of i = repeat 10 (addition i) ++ codes "get_" ++ decimal i ++ codes "\n"

-- the text of the sample's call script
unfoldable pub calls_text : ℕ → List ℕ
calls_text n = flat_map calls_of (numbers n)

-- ---- the whole
-- the sample with n variables
unfoldable pub sample_of : ℕ → SampleFiles
sample_of n = record {
  files =
      (codes "sample.prj", project_text) ∷ (codes "Sample.mch", machine_text n) ∷ (codes "Sample_i.imp", implementation_text n) ∷
      (codes "Sample.prf", proof_text n) ∷ [];
  calls = calls_text n;
}
