-- Loops that keep the first fault: what is told so far, and what is told of those that are left, is what is told of all.
use Rattle.std.proofs.Common.{◌≡◌, ℕ, suc, ◌+◌, ◌<◌, ◌≤◌, List, [], ◌∷◌, ◌++◌, length, get_or, take, drop, refl, sym, ◌∙◌, ap, Bool, true, false, arith, append_assoc}
use Rattle.std.specs.Prelude.{Option, ◌||◌}
use Rattle.std.proofs.lemmas.List.{at_drop_more, take_more, get_or_default, drop_all}
use Rattle.bk_raw.specs.Errors.Blame.{blame, earlier}
use Rattle.bk_raw.proofs.Blamed.{blame-joins, earlier-joins, earlier-none}
use Rattle.bk_raw.specs.Errors.Faults.{Fault}

-- ---- lists
-- the next of what is left
pub next : {X Y : Type 0} (F : List X → Y) (xs : List X) (i : ℕ) (x : X) → i < length xs → x ≡ get_or xs i x → F (drop i xs) ≡ F (x ∷ drop (i + 1) xs)
next F xs i x h e = at_drop_more F xs i x h ∙ ap (λ y. F (y ∷ drop (i + 1) xs)) (sym e)

-- the last of what was there
pub last : {X Y : Type 0} (F : List X → Y) (xs : List X) (i : ℕ) (x : X) → i < length xs → x ≡ get_or xs i x → F (take (i + 1) xs) ≡ F (take i xs ++ x ∷ [])
last F xs i x h e = ap F (take_more xs i x h) ∙ ap (λ y. F (take i xs ++ y ∷ [])) (sym e)

pub at-item : {X : Type 0} (xs : List X) (i : ℕ) (d : X) → i < length xs → get_or xs i d ≡ get_or xs i (get_or xs i d)
at-item xs i d h = get_or_default xs i d (get_or xs i d) h

pub suc-on : (a i : ℕ) → suc (a + i) ≡ a + (i + 1)
suc-on a i = omega arith

-- ---- tests

pub or-swap : (a b c : Bool) → (a || (b || c)) ≡ (b || (a || c))
or-swap true true c = refl
or-swap true false c = refl
or-swap false b c = refl

pub or-false : (b : Bool) → (b || false) ≡ b
or-false true = refl
or-false false = refl

-- ---- faults
-- what is told of one more, joined to what was told
pub told-more : (all one rest : List Fault) (before now after whole : Option Fault) → all ≡ one ++ rest → now ≡ blame one → after ≡ earlier before now → earlier before (blame all) ≡ whole → earlier after (blame rest) ≡ whole
told-more all one rest before now after whole e k f h =
    ap (λ o. earlier o (blame rest)) f
    ∙ (earlier-joins before now (blame rest)
    ∙ (ap (λ o. earlier before (earlier o (blame rest))) k
    ∙ (ap (λ o. earlier before o) (sym (blame-joins one rest) ∙ ap blame (sym e)) ∙ h)))

-- the same of the next in a list
pub told-next : {X : Type 0} (F : List X → List Fault) (one : List Fault) (xs : List X) (i : ℕ) (x : X) (before now after whole : Option Fault) → F (x ∷ drop (i + 1) xs) ≡ one ++ F (drop (i + 1) xs) → i < length xs → x ≡ get_or xs i x →
    now ≡ blame one → after ≡ earlier before now → earlier before (blame (F (drop i xs))) ≡ whole → earlier after (blame (F (drop (i + 1) xs))) ≡ whole
told-next F one xs i x before now after whole step h e k f inv =
    told-more (F (drop i xs)) one (F (drop (i + 1) xs)) before now after whole (next F xs i x h e ∙ step) k f inv

-- the same where the next is read at its place
pub told-here : {X : Type 0} (F : List X → List Fault) (one : List Fault) (xs : List X) (i : ℕ) (d : X) (before now after whole : Option Fault) → F (get_or xs i d ∷ drop (i + 1) xs) ≡ one ++ F (drop (i + 1) xs) → i < length xs →
    now ≡ blame one → after ≡ earlier before now → earlier before (blame (F (drop i xs))) ≡ whole → earlier after (blame (F (drop (i + 1) xs))) ≡ whole
told-here F one xs i d before now after whole step h k f inv = told-next F one xs i (get_or xs i d) before now after whole step h (at-item xs i d h) k f inv

-- the same, where the faults of each are those of one function
pub told-at : {X : Type 0} (F : List X → List Fault) (one : X → List Fault) (xs : List X) (i : ℕ) (d : X) (before now after whole : Option Fault) → ((x : X) (ys : List X) → F (x ∷ ys) ≡ one x ++ F ys) → i < length xs →
    now ≡ blame (one (get_or xs i d)) → after ≡ earlier before now → earlier before (blame (F (drop i xs))) ≡ whole → earlier after (blame (F (drop (i + 1) xs))) ≡ whole
told-at F one xs i d before now after whole step h k f inv =
    told-next F (one (get_or xs i d)) xs i (get_or xs i d) before now after whole (step (get_or xs i d) (drop (i + 1) xs)) h (at-item xs i d h) k f inv

-- the same where the faults depend on the place
pub told-next-at : {X : Type 0} (F : ℕ → List X → List Fault) (one : List Fault) (xs : List X) (i : ℕ) (x : X) (before now after whole : Option Fault) → F i (x ∷ drop (i + 1) xs) ≡ one ++ F (i + 1) (drop (i + 1) xs) → i < length xs → x ≡ get_or xs i x →
    now ≡ blame one → after ≡ earlier before now → earlier before (blame (F i (drop i xs))) ≡ whole → earlier after (blame (F (i + 1) (drop (i + 1) xs))) ≡ whole
told-next-at F one xs i x before now after whole step h e k f inv =
    told-more (F i (drop i xs)) one (F (i + 1) (drop (i + 1) xs)) before now after whole (next (F i) xs i x h e ∙ step) k f inv

-- the same of an item
pub told-item : {X : Type 0} (F : List X → List Fault) (one : X → List Fault) (xs : List X) (i : ℕ) (x : X) (before now after whole : Option Fault) → ((y : X) (ys : List X) → F (y ∷ ys) ≡ one y ++ F ys) → i < length xs → x ≡ get_or xs i x →
    now ≡ blame (one x) → after ≡ earlier before now → earlier before (blame (F (drop i xs))) ≡ whole → earlier after (blame (F (drop (i + 1) xs))) ≡ whole
told-item F one xs i x before now after whole step h e k f inv = told-next F (one x) xs i x before now after whole (step x (drop (i + 1) xs)) h e k f inv

-- the same of an item that has a number
pub told-number-item : {X : Type 0} (F : ℕ → List X → List Fault) (one : ℕ → X → List Fault) (first : ℕ) (xs : List X) (i : ℕ) (x : X) (m : ℕ) (before now after whole : Option Fault) → ((n : ℕ) (y : X) (ys : List X) → F n (y ∷ ys) ≡ one n y ++ F (suc n) ys) →
    i < length xs → x ≡ get_or xs i x → m ≡ first + i → now ≡ blame (one m x) → after ≡ earlier before now → earlier before (blame (F (first + i) (drop i xs))) ≡ whole → earlier after (blame (F (first + (i + 1)) (drop (i + 1) xs))) ≡ whole
told-number-item F one first xs i x m before now after whole step h is e k f inv =
    told-more (F (first + i) (drop i xs)) (one (first + i) x) (F (first + (i + 1)) (drop (i + 1) xs)) before now after whole
    (next (F (first + i)) xs i x h is ∙ (step (first + i) x (drop (i + 1) xs) ∙ ap (λ n. one (first + i) x ++ F n (drop (i + 1) xs)) (suc-on first i)))
    (k ∙ ap (λ n. blame (one n x)) e) f inv

-- the same of what has numbers from the first on
pub told-numbered : {X : Type 0} (F : ℕ → List X → List Fault) (one : ℕ → X → List Fault) (first : ℕ) (xs : List X) (i : ℕ) (d : X) (m : ℕ) (before now after whole : Option Fault) → ((n : ℕ) (x : X) (ys : List X) → F n (x ∷ ys) ≡ one n x ++ F (suc n) ys) →
    i < length xs → m ≡ first + i → now ≡ blame (one m (get_or xs i d)) → after ≡ earlier before now → earlier before (blame (F (first + i) (drop i xs))) ≡ whole → earlier after (blame (F (first + (i + 1)) (drop (i + 1) xs))) ≡ whole
told-numbered F one first xs i d m before now after whole step h e k f inv =
    let x = get_or xs i d in
    told-more (F (first + i) (drop i xs)) (one (first + i) x) (F (first + (i + 1)) (drop (i + 1) xs)) before now after whole
    (next (F (first + i)) xs i x h (at-item xs i d h) ∙ (step (first + i) x (drop (i + 1) xs) ∙ ap (λ n. one (first + i) x ++ F n (drop (i + 1) xs)) (suc-on first i)))
    (k ∙ ap (λ n. blame (one n x)) e) f inv

-- after all of them
pub told-end : {X : Type 0} (F : List X → List Fault) (xs : List X) (i : ℕ) (fault whole : Option Fault) → F [] ≡ [] → length xs ≤ i → earlier fault (blame (F (drop i xs))) ≡ whole → fault ≡ whole
told-end F xs i fault whole none h inv =
    sym (earlier-none fault) ∙ (ap (λ l. earlier fault (blame l)) (sym none) ∙ (ap (λ l. earlier fault (blame (F l))) (sym (drop_all i xs h)) ∙ inv))

-- what is told of two parts
pub told-both : (one other : List Fault) (a b c : Option Fault) → a ≡ blame one → b ≡ blame other → c ≡ earlier a b → c ≡ blame (one ++ other)
told-both one other a b c h k e = e ∙ (ap (λ o. earlier o b) h ∙ (ap (λ o. earlier (blame one) o) k ∙ sym (blame-joins one other)))

-- of three parts
pub told-three : (one two three : List Fault) (a b c inner every : Option Fault) → a ≡ blame one → b ≡ blame two → c ≡ blame three → inner ≡ earlier b c → every ≡ earlier a inner → every ≡ blame (one ++ (two ++ three))
told-three one two three a b c inner every h k l e f = told-both one (two ++ three) a inner every h (told-both two three b c inner k l e) f

-- of four
pub told-four : (one two three four : List Fault) (a b c d last inner every : Option Fault) → a ≡ blame one → b ≡ blame two → c ≡ blame three → d ≡ blame four → last ≡ earlier c d → inner ≡ earlier b last → every ≡ earlier a inner →
    every ≡ blame (one ++ (two ++ (three ++ four)))
told-four one two three four a b c d last inner every h k l m e f g = told-both one (two ++ (three ++ four)) a inner every h (told-three two three four b c d last inner k l m e f) g

-- ---- what is found
-- what is found of one more goes behind what was found
pub found-next : {X Y : Type 0} (G : List X → List Y) (one : List Y) (xs : List X) (i : ℕ) (x : X) (before after whole : List Y) → G (x ∷ drop (i + 1) xs) ≡ one ++ G (drop (i + 1) xs) → i < length xs → x ≡ get_or xs i x →
    after ≡ before ++ one → before ++ G (drop i xs) ≡ whole → after ++ G (drop (i + 1) xs) ≡ whole
found-next G one xs i x before after whole step h e f inv =
    ap (λ l. l ++ G (drop (i + 1) xs)) f
    ∙ (append_assoc before one (G (drop (i + 1) xs)) ∙ (ap (λ l. before ++ l) (sym (next G xs i x h e ∙ step)) ∙ inv))
