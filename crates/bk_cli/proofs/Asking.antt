-- The words ask for one task at most.
use Rattle.std.proofs.Common.{◌≡◌, ◌≤◌, ◌<◌, ◌^◌, ℕ, false, true≢false, List, [], ◌∷◌, Option, Some, None, refl, sym, ◌∙◌, ap, subst, arith, codes, decimal}
use Rattle.std.specs.Str.{bytes_eq}
use Rattle.std.proofs.lemmas.Slice.Eq.{bytes_eq-Decides}
use Rattle.std.proofs.lemmas.Fmt.{decimal_injective}
use Rattle.bk_cli.specs.Words.{AreWords}
use Rattle.bk_cli.specs.Tasks.{Task, check_task, status_task, po_task, find_task, code_task, build_task, run_task, exec_task, sample_task, most_variables, IsFuel, IsTaskOf, Asks, AskForNothing}
use Rattle.bk_cli.specs.Laws.{AskForOne}

-- ---- lists
-- what stands in two equal options
value_in : List ℕ → Option (List ℕ) → List ℕ
value_in d None = d
value_in d (Some x) = x

some_once : {a b : List ℕ} → Some a ≡ Some b → a ≡ b
unfolding value_in
some_once {a} {b} e = ap (value_in a) e

head_or : List ℕ → List (List ℕ) → List ℕ
head_or d [] = d
head_or d (x ∷ xs) = x

tail_of : List (List ℕ) → List (List ℕ)
tail_of [] = []
tail_of (x ∷ xs) = xs

first_of_both : (a b : List ℕ) (xs ys : List (List ℕ)) → a ∷ xs ≡ b ∷ ys → a ≡ b
unfolding head_or
first_of_both a b xs ys e = ap (head_or a) e

second_of_both : (a b c d : List ℕ) → a ∷ c ∷ [] ≡ b ∷ d ∷ [] → c ≡ d
unfolding tail_of
second_of_both a b c d e = first_of_both c d [] [] (ap tail_of e)

-- two texts that a test tells apart
differ : (a b : List ℕ) → bytes_eq a b ≡ false → a ≡ b → ⊥
differ a b t e = true≢false (sym ((bytes_eq-Decides a b).1 e) ∙ t)

-- ---- tasks
task_once : (verb : List ℕ) (files : List (List ℕ)) (fuel0 : ℕ) (one other : Task) → IsTaskOf verb files fuel0 one → IsTaskOf verb files fuel0 other → one ≡ other
task_once verb files fuel0 (check_task project) (check_task project2) h k = ap check_task (first_of_both project project2 [] [] (sym h.1 ∙ k.1))
task_once verb files fuel0 (check_task project) (status_task project2) h k = absurd (differ (codes "check") (codes "status") refl (sym h.0 ∙ k.0))
task_once verb files fuel0 (check_task project) (po_task project2) h k = absurd (differ (codes "check") (codes "po") refl (sym h.0 ∙ k.0))
task_once verb files fuel0 (check_task project) (find_task project2) h k = absurd (differ (codes "check") (codes "find") refl (sym h.0 ∙ k.0))
task_once verb files fuel0 (check_task project) (code_task project2) h k = absurd (differ (codes "check") (codes "code") refl (sym h.0 ∙ k.0))
task_once verb files fuel0 (check_task project) (build_task project2) h k = absurd (differ (codes "check") (codes "build") refl (sym h.0 ∙ k.0))
task_once verb files fuel0 (check_task project) (run_task project2 calls2 fuel2) h k = absurd (differ (codes "check") (codes "run") refl (sym h.0 ∙ k.0))
task_once verb files fuel0 (check_task project) (exec_task image2 calls2 fuel2) h k = absurd (differ (codes "check") (codes "exec") refl (sym h.0 ∙ k.0))
task_once verb files fuel0 (check_task project) (sample_task variables2) h k = absurd (differ (codes "check") (codes "sample") refl (sym h.0 ∙ k.0))
task_once verb files fuel0 (status_task project) (check_task project2) h k = absurd (differ (codes "status") (codes "check") refl (sym h.0 ∙ k.0))
task_once verb files fuel0 (status_task project) (status_task project2) h k = ap status_task (first_of_both project project2 [] [] (sym h.1 ∙ k.1))
task_once verb files fuel0 (status_task project) (po_task project2) h k = absurd (differ (codes "status") (codes "po") refl (sym h.0 ∙ k.0))
task_once verb files fuel0 (status_task project) (find_task project2) h k = absurd (differ (codes "status") (codes "find") refl (sym h.0 ∙ k.0))
task_once verb files fuel0 (status_task project) (code_task project2) h k = absurd (differ (codes "status") (codes "code") refl (sym h.0 ∙ k.0))
task_once verb files fuel0 (status_task project) (build_task project2) h k = absurd (differ (codes "status") (codes "build") refl (sym h.0 ∙ k.0))
task_once verb files fuel0 (status_task project) (run_task project2 calls2 fuel2) h k = absurd (differ (codes "status") (codes "run") refl (sym h.0 ∙ k.0))
task_once verb files fuel0 (status_task project) (exec_task image2 calls2 fuel2) h k = absurd (differ (codes "status") (codes "exec") refl (sym h.0 ∙ k.0))
task_once verb files fuel0 (status_task project) (sample_task variables2) h k = absurd (differ (codes "status") (codes "sample") refl (sym h.0 ∙ k.0))
task_once verb files fuel0 (po_task project) (check_task project2) h k = absurd (differ (codes "po") (codes "check") refl (sym h.0 ∙ k.0))
task_once verb files fuel0 (po_task project) (status_task project2) h k = absurd (differ (codes "po") (codes "status") refl (sym h.0 ∙ k.0))
task_once verb files fuel0 (po_task project) (po_task project2) h k = ap po_task (first_of_both project project2 [] [] (sym h.1 ∙ k.1))
task_once verb files fuel0 (po_task project) (find_task project2) h k = absurd (differ (codes "po") (codes "find") refl (sym h.0 ∙ k.0))
task_once verb files fuel0 (po_task project) (code_task project2) h k = absurd (differ (codes "po") (codes "code") refl (sym h.0 ∙ k.0))
task_once verb files fuel0 (po_task project) (build_task project2) h k = absurd (differ (codes "po") (codes "build") refl (sym h.0 ∙ k.0))
task_once verb files fuel0 (po_task project) (run_task project2 calls2 fuel2) h k = absurd (differ (codes "po") (codes "run") refl (sym h.0 ∙ k.0))
task_once verb files fuel0 (po_task project) (exec_task image2 calls2 fuel2) h k = absurd (differ (codes "po") (codes "exec") refl (sym h.0 ∙ k.0))
task_once verb files fuel0 (po_task project) (sample_task variables2) h k = absurd (differ (codes "po") (codes "sample") refl (sym h.0 ∙ k.0))
task_once verb files fuel0 (find_task project) (check_task project2) h k = absurd (differ (codes "find") (codes "check") refl (sym h.0 ∙ k.0))
task_once verb files fuel0 (find_task project) (status_task project2) h k = absurd (differ (codes "find") (codes "status") refl (sym h.0 ∙ k.0))
task_once verb files fuel0 (find_task project) (po_task project2) h k = absurd (differ (codes "find") (codes "po") refl (sym h.0 ∙ k.0))
task_once verb files fuel0 (find_task project) (find_task project2) h k = ap find_task (first_of_both project project2 [] [] (sym h.1 ∙ k.1))
task_once verb files fuel0 (find_task project) (code_task project2) h k = absurd (differ (codes "find") (codes "code") refl (sym h.0 ∙ k.0))
task_once verb files fuel0 (find_task project) (build_task project2) h k = absurd (differ (codes "find") (codes "build") refl (sym h.0 ∙ k.0))
task_once verb files fuel0 (find_task project) (run_task project2 calls2 fuel2) h k = absurd (differ (codes "find") (codes "run") refl (sym h.0 ∙ k.0))
task_once verb files fuel0 (find_task project) (exec_task image2 calls2 fuel2) h k = absurd (differ (codes "find") (codes "exec") refl (sym h.0 ∙ k.0))
task_once verb files fuel0 (find_task project) (sample_task variables2) h k = absurd (differ (codes "find") (codes "sample") refl (sym h.0 ∙ k.0))
task_once verb files fuel0 (code_task project) (check_task project2) h k = absurd (differ (codes "code") (codes "check") refl (sym h.0 ∙ k.0))
task_once verb files fuel0 (code_task project) (status_task project2) h k = absurd (differ (codes "code") (codes "status") refl (sym h.0 ∙ k.0))
task_once verb files fuel0 (code_task project) (po_task project2) h k = absurd (differ (codes "code") (codes "po") refl (sym h.0 ∙ k.0))
task_once verb files fuel0 (code_task project) (find_task project2) h k = absurd (differ (codes "code") (codes "find") refl (sym h.0 ∙ k.0))
task_once verb files fuel0 (code_task project) (code_task project2) h k = ap code_task (first_of_both project project2 [] [] (sym h.1 ∙ k.1))
task_once verb files fuel0 (code_task project) (build_task project2) h k = absurd (differ (codes "code") (codes "build") refl (sym h.0 ∙ k.0))
task_once verb files fuel0 (code_task project) (run_task project2 calls2 fuel2) h k = absurd (differ (codes "code") (codes "run") refl (sym h.0 ∙ k.0))
task_once verb files fuel0 (code_task project) (exec_task image2 calls2 fuel2) h k = absurd (differ (codes "code") (codes "exec") refl (sym h.0 ∙ k.0))
task_once verb files fuel0 (code_task project) (sample_task variables2) h k = absurd (differ (codes "code") (codes "sample") refl (sym h.0 ∙ k.0))
task_once verb files fuel0 (build_task project) (check_task project2) h k = absurd (differ (codes "build") (codes "check") refl (sym h.0 ∙ k.0))
task_once verb files fuel0 (build_task project) (status_task project2) h k = absurd (differ (codes "build") (codes "status") refl (sym h.0 ∙ k.0))
task_once verb files fuel0 (build_task project) (po_task project2) h k = absurd (differ (codes "build") (codes "po") refl (sym h.0 ∙ k.0))
task_once verb files fuel0 (build_task project) (find_task project2) h k = absurd (differ (codes "build") (codes "find") refl (sym h.0 ∙ k.0))
task_once verb files fuel0 (build_task project) (code_task project2) h k = absurd (differ (codes "build") (codes "code") refl (sym h.0 ∙ k.0))
task_once verb files fuel0 (build_task project) (build_task project2) h k = ap build_task (first_of_both project project2 [] [] (sym h.1 ∙ k.1))
task_once verb files fuel0 (build_task project) (run_task project2 calls2 fuel2) h k = absurd (differ (codes "build") (codes "run") refl (sym h.0 ∙ k.0))
task_once verb files fuel0 (build_task project) (exec_task image2 calls2 fuel2) h k = absurd (differ (codes "build") (codes "exec") refl (sym h.0 ∙ k.0))
task_once verb files fuel0 (build_task project) (sample_task variables2) h k = absurd (differ (codes "build") (codes "sample") refl (sym h.0 ∙ k.0))
task_once verb files fuel0 (run_task project calls fuel) (check_task project2) h k = absurd (differ (codes "run") (codes "check") refl (sym h.0 ∙ k.0))
task_once verb files fuel0 (run_task project calls fuel) (status_task project2) h k = absurd (differ (codes "run") (codes "status") refl (sym h.0 ∙ k.0))
task_once verb files fuel0 (run_task project calls fuel) (po_task project2) h k = absurd (differ (codes "run") (codes "po") refl (sym h.0 ∙ k.0))
task_once verb files fuel0 (run_task project calls fuel) (find_task project2) h k = absurd (differ (codes "run") (codes "find") refl (sym h.0 ∙ k.0))
task_once verb files fuel0 (run_task project calls fuel) (code_task project2) h k = absurd (differ (codes "run") (codes "code") refl (sym h.0 ∙ k.0))
task_once verb files fuel0 (run_task project calls fuel) (build_task project2) h k = absurd (differ (codes "run") (codes "build") refl (sym h.0 ∙ k.0))
task_once verb files fuel0 (run_task project calls fuel) (run_task project2 calls2 fuel2) h k =
    ap (λ x. run_task x calls fuel) (first_of_both project project2 (calls ∷ []) (calls2 ∷ []) (sym h.1 ∙ k.1)) ∙
    (ap (λ x. run_task project2 x fuel) (second_of_both project project2 calls calls2 (sym h.1 ∙ k.1)) ∙ ap (λ x. run_task project2 calls2 x) (h.2 ∙ sym k.2))
task_once verb files fuel0 (run_task project calls fuel) (exec_task image2 calls2 fuel2) h k = absurd (differ (codes "run") (codes "exec") refl (sym h.0 ∙ k.0))
task_once verb files fuel0 (run_task project calls fuel) (sample_task variables2) h k = absurd (differ (codes "run") (codes "sample") refl (sym h.0 ∙ k.0))
task_once verb files fuel0 (exec_task image calls fuel) (check_task project2) h k = absurd (differ (codes "exec") (codes "check") refl (sym h.0 ∙ k.0))
task_once verb files fuel0 (exec_task image calls fuel) (status_task project2) h k = absurd (differ (codes "exec") (codes "status") refl (sym h.0 ∙ k.0))
task_once verb files fuel0 (exec_task image calls fuel) (po_task project2) h k = absurd (differ (codes "exec") (codes "po") refl (sym h.0 ∙ k.0))
task_once verb files fuel0 (exec_task image calls fuel) (find_task project2) h k = absurd (differ (codes "exec") (codes "find") refl (sym h.0 ∙ k.0))
task_once verb files fuel0 (exec_task image calls fuel) (code_task project2) h k = absurd (differ (codes "exec") (codes "code") refl (sym h.0 ∙ k.0))
task_once verb files fuel0 (exec_task image calls fuel) (build_task project2) h k = absurd (differ (codes "exec") (codes "build") refl (sym h.0 ∙ k.0))
task_once verb files fuel0 (exec_task image calls fuel) (run_task project2 calls2 fuel2) h k = absurd (differ (codes "exec") (codes "run") refl (sym h.0 ∙ k.0))
task_once verb files fuel0 (exec_task image calls fuel) (exec_task image2 calls2 fuel2) h k =
    ap (λ x. exec_task x calls fuel) (first_of_both image image2 (calls ∷ []) (calls2 ∷ []) (sym h.1 ∙ k.1)) ∙
    (ap (λ x. exec_task image2 x fuel) (second_of_both image image2 calls calls2 (sym h.1 ∙ k.1)) ∙ ap (λ x. exec_task image2 calls2 x) (h.2 ∙ sym k.2))
task_once verb files fuel0 (exec_task image calls fuel) (sample_task variables2) h k = absurd (differ (codes "exec") (codes "sample") refl (sym h.0 ∙ k.0))
task_once verb files fuel0 (sample_task variables) (check_task project2) h k = absurd (differ (codes "sample") (codes "check") refl (sym h.0 ∙ k.0))
task_once verb files fuel0 (sample_task variables) (status_task project2) h k = absurd (differ (codes "sample") (codes "status") refl (sym h.0 ∙ k.0))
task_once verb files fuel0 (sample_task variables) (po_task project2) h k = absurd (differ (codes "sample") (codes "po") refl (sym h.0 ∙ k.0))
task_once verb files fuel0 (sample_task variables) (find_task project2) h k = absurd (differ (codes "sample") (codes "find") refl (sym h.0 ∙ k.0))
task_once verb files fuel0 (sample_task variables) (code_task project2) h k = absurd (differ (codes "sample") (codes "code") refl (sym h.0 ∙ k.0))
task_once verb files fuel0 (sample_task variables) (build_task project2) h k = absurd (differ (codes "sample") (codes "build") refl (sym h.0 ∙ k.0))
task_once verb files fuel0 (sample_task variables) (run_task project2 calls2 fuel2) h k = absurd (differ (codes "sample") (codes "run") refl (sym h.0 ∙ k.0))
task_once verb files fuel0 (sample_task variables) (exec_task image2 calls2 fuel2) h k = absurd (differ (codes "sample") (codes "exec") refl (sym h.0 ∙ k.0))
task_once verb files fuel0 (sample_task variables) (sample_task variables2) h k =
    ap sample_task (decimal_injective variables variables2 (omega (arith, h.3)) (omega (arith, k.3)) (first_of_both (decimal variables) (decimal variables2) [] [] (sym h.1 ∙ k.1)))

-- a text of a number that is no sample's size is asked for by no task of that verb
pub no_sample : (size : List ℕ) (n : ℕ) → n < 2 ^ 64 → size ≡ decimal n → ((1 ≤ n) × (n ≤ most_variables) → ⊥) → (fuel : ℕ) (task : Task) → IsTaskOf (codes "sample") (size ∷ []) fuel task → ⊥
no_sample size n fits written none fuel (check_task project) h = differ (codes "sample") (codes "check") refl h.0
no_sample size n fits written none fuel (status_task project) h = differ (codes "sample") (codes "status") refl h.0
no_sample size n fits written none fuel (po_task project) h = differ (codes "sample") (codes "po") refl h.0
no_sample size n fits written none fuel (find_task project) h = differ (codes "sample") (codes "find") refl h.0
no_sample size n fits written none fuel (code_task project) h = differ (codes "sample") (codes "code") refl h.0
no_sample size n fits written none fuel (build_task project) h = differ (codes "sample") (codes "build") refl h.0
no_sample size n fits written none fuel (run_task project calls steps) h = differ (codes "sample") (codes "run") refl h.0
no_sample size n fits written none fuel (exec_task image calls steps) h = differ (codes "sample") (codes "exec") refl h.0
no_sample size n fits written none fuel (sample_task variables) h =
    let same : n ≡ variables = decimal_injective n variables fits (omega (arith, h.3)) (sym written ∙ first_of_both size (decimal variables) [] [] h.1) in
    none (omega (arith, h.2), omega (arith, h.3))

-- ---- words
-- the verb, the files and the text behind --fuel are one each
pub words_once : (words : List (List ℕ)) (verb other : List ℕ) (files others : List (List ℕ)) (text more : List ℕ) → AreWords words verb files text → AreWords words other others more →
    (verb ≡ other) × (files ≡ others) × (text ≡ more)
words_once words verb other files others text more h k = (some_once (sym h.verb_is ∙ k.verb_is), h.files_are ∙ sym k.files_are, some_once (sym h.fuel_is ∙ k.fuel_is))

pub fuel_once : (text : List ℕ) (one other : ℕ) → IsFuel text one → IsFuel text other → one ≡ other
fuel_once text one other h k = decimal_injective one other (omega (arith, h.most)) (omega (arith, k.most)) (sym h.written ∙ k.written)

pub ask_for_one : AskForOne
ask_for_one words one other h k =
    let same = words_once words h.verb k.verb h.files k.files h.text k.text h.are k.are in
    let fuel = fuel_once k.text h.fuel k.fuel (subst (λ x. IsFuel x h.fuel) same.2 h.is_fuel) k.is_fuel in
    task_once k.verb k.files k.fuel one other
    (subst (λ x. IsTaskOf k.verb k.files x one) fuel (subst (λ x. IsTaskOf k.verb x h.fuel one) same.1 (subst (λ x. IsTaskOf x h.files h.fuel one) same.0 h.meant)))
    k.meant

-- ---- what is asked for
-- words that are none of the command's ask for nothing
pub refused_words : (words : List (List ℕ)) → ((verb : List ℕ) (files : List (List ℕ)) (fuel : List ℕ) → AreWords words verb files fuel → ⊥) → AskForNothing words
refused_words words none task a = none a.verb a.files a.text a.are

-- nor do words of which no verb, no number of files or no fuel is right
pub no_task : (words : List (List ℕ)) (verb : List ℕ) (files : List (List ℕ)) (text : List ℕ) → AreWords words verb files text →
    ((fuel : ℕ) (task : Task) → IsFuel text fuel → IsTaskOf verb files fuel task → ⊥) → AskForNothing words
no_task words verb files text are none task a =
    let same = words_once words a.verb verb a.files files a.text text a.are are in
    none a.fuel task (subst (λ x. IsFuel x a.fuel) same.2 a.is_fuel)
    (subst (λ x. IsTaskOf verb x a.fuel task) same.1 (subst (λ x. IsTaskOf x a.files a.fuel task) same.0 a.meant))

-- words with a verb, files and fuel of a task ask for it
pub asks_for : (words : List (List ℕ)) (verb : List ℕ) (files : List (List ℕ)) (text : List ℕ) (task : Task) → AreWords words verb files text → (fuel : ℕ) × IsFuel text fuel × IsTaskOf verb files fuel task → Asks words task
asks_for words verb files text task are h = record { verb = verb; files = files; text = text; are = are; fuel = h.0; is_fuel = h.1; meant = h.2 }
