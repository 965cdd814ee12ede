-- The laws of arrows and functions: row Mn has the number 300 + n. x, y and z are any terms,
-- f and g relations, S is a set value, A and B are sets or domains, and o is an empty set.
-- Source: after the B-Book's laws of functions.
use Rattle.std.specs.Prelude.{List, [], ◌∷◌}
use Rattle.bk_form.specs.declared.operator.UnOp.TheVariants.{Not, Dom, Ran, Id, Inverse, Single, Pow}
use Rattle.bk_form.specs.declared.operator.BinOp.TheVariants.{And, Eq, In, Relations, PartialFunctions, TotalFunctions, PartialInjections}
use Rattle.bk_form.specs.declared.operator.BinOp.TheVariants.{TotalInjections, PartialSurjections, TotalSurjections, Bijections, Union}
use Rattle.bk_form.specs.declared.operator.BinOp.TheVariants.{Inter, Times, DomRes, DomSub, Over, Maps, Apply, Comp}
use Rattle.bk_laws.specs.Patterns.{one, two, always, an_empty}
use Rattle.bk_laws.specs.Rows.{Row, same, same_if, row_of_two, row_of_three, row_of_four, row_of_five}

-- M37: `f : A <-> B` is `f : POW(A * B)`
abbrev pub m37 : Row
m37 = row_of_three 337 (λ f A B. same (two In f (two Relations A B)) (two In f (one Pow (two Times A B))))

-- M38: `f : A <-> B` is `dom(f) : POW(A) & ran(f) : POW(B)`
abbrev pub m38 : Row
m38 = row_of_three 338
    (λ f A B. same (two In f (two Relations A B)) (two And (two In (one Dom f) (one Pow A)) (two In (one Ran f) (one Pow B))))

-- M39: `f : A +-> B` is `f : A <-> B & (f~ ; f) : POW(id(ran(f)))`
abbrev pub m39 : Row
m39 = row_of_three 339 (λ f A B. same (two In f (two PartialFunctions A B))
    (two And (two In f (two Relations A B)) (two In (two Comp (one Inverse f) f) (one Pow (one Id (one Ran f))))))

-- M40: `f : S --> B` is `f : S +-> B & dom(f) = S`
abbrev pub m40 : Row
m40 = row_of_three 340
    (λ f S B. same (two In f (two TotalFunctions S B)) (two And (two In f (two PartialFunctions S B)) (two Eq (one Dom f) S)))

-- M41: `f : A >+> B` is `f : A +-> B & f~ : B +-> A`
abbrev pub m41 : Row
m41 = row_of_three 341 (λ f A B. same (two In f (two PartialInjections A B))
    (two And (two In f (two PartialFunctions A B)) (two In (one Inverse f) (two PartialFunctions B A))))

-- M42: `f : A >-> B` is `f : A --> B & f~ : B +-> A`
abbrev pub m42 : Row
m42 = row_of_three 342 (λ f A B. same (two In f (two TotalInjections A B))
    (two And (two In f (two TotalFunctions A B)) (two In (one Inverse f) (two PartialFunctions B A))))

-- M43: `f : A +->> S` is `f : A +-> S & ran(f) = S`
abbrev pub m43 : Row
m43 = row_of_three 343
    (λ f A S. same (two In f (two PartialSurjections A S)) (two And (two In f (two PartialFunctions A S)) (two Eq (one Ran f) S)))

-- M44: `f : A -->> S` is `f : A --> S & ran(f) = S`
abbrev pub m44 : Row
m44 = row_of_three 344
    (λ f A S. same (two In f (two TotalSurjections A S)) (two And (two In f (two TotalFunctions A S)) (two Eq (one Ran f) S)))

-- M45: `f : A >->> S` is `f : A >-> S & ran(f) = S`
abbrev pub m45 : Row
m45 = row_of_three 345 (λ f A S. same (two In f (two Bijections A S)) (two And (two In f (two TotalInjections A S)) (two Eq (one Ran f) S)))

-- M46: `f(x) : B` is `btrue` if `f : A +-> B`, `x : dom(f)`
abbrev pub m46 : Row
m46 = row_of_four 346
    (λ f x B A. same_if (two In (two Apply f x) B) always ((two In f (two PartialFunctions A B)) ∷ (two In x (one Dom f)) ∷ []))

-- M47: `f(x) = y` is `x |-> y : f` if `f : A +-> B`, `x : dom(f)`
abbrev pub m47 : Row
m47 = row_of_five 347 (λ f x y A B.
    same_if (two Eq (two Apply f x) y) (two In (two Maps x y) f) ((two In f (two PartialFunctions A B)) ∷ (two In x (one Dom f)) ∷ []))

-- M48: `f(x) : B` is `btrue` if `f : S --> B`, `x : S`
abbrev pub m48 : Row
m48 = row_of_four 348 (λ f x B S. same_if (two In (two Apply f x) B) always ((two In f (two TotalFunctions S B)) ∷ (two In x S) ∷ []))

-- M49: `(f <+ {x |-> y})(x)` is `y`
abbrev pub m49 : Row
m49 = row_of_three 349 (λ f x y. same (two Apply (two Over f (one Single (two Maps x y))) x) y)

-- M50: `(f <+ {x |-> y})(z)` is `f(z)` if `not(z = x)`
abbrev pub m50 : Row
m50 = row_of_four 350
    (λ f x y z. same_if (two Apply (two Over f (one Single (two Maps x y))) z) (two Apply f z) ((one Not (two Eq z x)) ∷ []))

-- M51: `(f <+ g)(x)` is `g(x)` if `x : dom(g)`
abbrev pub m51 : Row
m51 = row_of_three 351 (λ f g x. same_if (two Apply (two Over f g) x) (two Apply g x) ((two In x (one Dom g)) ∷ []))

-- M52: `(f <+ g)(x)` is `f(x)` if `not(x : dom(g))`
abbrev pub m52 : Row
m52 = row_of_three 352 (λ f g x. same_if (two Apply (two Over f g) x) (two Apply f x) ((one Not (two In x (one Dom g))) ∷ []))

-- M53: `(f \/ g)(x)` is `f(x)` if `not(x : dom(g))`
abbrev pub m53 : Row
m53 = row_of_three 353 (λ f g x. same_if (two Apply (two Union f g) x) (two Apply f x) ((one Not (two In x (one Dom g))) ∷ []))

-- M54: `(S <| f)(x)` is `f(x)` if `x : S`
abbrev pub m54 : Row
m54 = row_of_three 354 (λ S f x. same_if (two Apply (two DomRes S f) x) (two Apply f x) ((two In x S) ∷ []))

-- M55: `(S * {y})(x)` is `y` if `x : S`
abbrev pub m55 : Row
m55 = row_of_three 355 (λ S y x. same_if (two Apply (two Times S (one Single y)) x) y ((two In x S) ∷ []))

-- M56: `id(S)(x)` is `x` if `x : S`
abbrev pub m56 : Row
m56 = row_of_two 356 (λ S x. same_if (two Apply (one Id S) x) x ((two In x S) ∷ []))

-- M57: `(f ; g)(x)` is `g(f(x))` if `f : A +-> B`, `x : dom(f)`
abbrev pub m57 : Row
m57 = row_of_five 357 (λ f g x A B. same_if (two Apply (two Comp f g) x) (two Apply g (two Apply f x))
    ((two In f (two PartialFunctions A B)) ∷ (two In x (one Dom f)) ∷ []))

-- M58: `f <+ {x |-> y} : S --> B` is `btrue` if `f : S --> B`, `x : S`, `y : B`
abbrev pub m58 : Row
m58 = row_of_five 358 (λ f x y S B. same_if (two In (two Over f (one Single (two Maps x y))) (two TotalFunctions S B))
    always ((two In f (two TotalFunctions S B)) ∷ (two In x S) ∷ (two In y B) ∷ []))

-- M59: `f <+ g : A +-> B` is `btrue` if `f : A +-> B`, `g : A +-> B`
abbrev pub m59 : Row
m59 = row_of_four 359 (λ f g A B. same_if (two In (two Over f g) (two PartialFunctions A B))
    always ((two In f (two PartialFunctions A B)) ∷ (two In g (two PartialFunctions A B)) ∷ []))

-- M60: `S * {y} : S --> B` is `btrue` if `y : B`
abbrev pub m60 : Row
m60 = row_of_three 360 (λ S y B. same_if (two In (two Times S (one Single y)) (two TotalFunctions S B)) always ((two In y B) ∷ []))

-- M61: `S <| f : A +-> B` is `btrue` if `f : A +-> B`
abbrev pub m61 : Row
m61 = row_of_four 361
    (λ S f A B. same_if (two In (two DomRes S f) (two PartialFunctions A B)) always ((two In f (two PartialFunctions A B)) ∷ []))

-- M62: `S <<| f : A +-> B` is `btrue` if `f : A +-> B`
abbrev pub m62 : Row
m62 = row_of_four 362
    (λ S f A B. same_if (two In (two DomSub S f) (two PartialFunctions A B)) always ((two In f (two PartialFunctions A B)) ∷ []))

-- M63: `f \/ g : A +-> B` is `btrue` if `f : A +-> B`, `g : A +-> B`, `dom(f) /\ dom(g) = o`
abbrev pub m63 : Row
m63 = row_of_five 363 (λ f g A B o. same_if (two In (two Union f g) (two PartialFunctions A B)) always ((two In f
    (two PartialFunctions A B)) ∷ (two In g (two PartialFunctions A B)) ∷ (two Eq (two Inter (one Dom f) (one Dom g)) (an_empty o)) ∷ []))

-- M64: `{x |-> y} : A +-> B` is `x : A & y : B`
abbrev pub m64 : Row
m64 = row_of_four 364 (λ x y A B. same (two In (one Single (two Maps x y)) (two PartialFunctions A B)) (two And (two In x A) (two In y B)))

-- M65: `f : S --> B` is `btrue` if `f : S --> A`, `ran(f) : POW(B)`
abbrev pub m65 : Row
m65 = row_of_four 365 (λ f S B A.
    same_if (two In f (two TotalFunctions S B)) always ((two In f (two TotalFunctions S A)) ∷ (two In (one Ran f) (one Pow B)) ∷ []))

-- in the order of their numbers
abbrev pub function_rows : List Row
function_rows =
    m37 ∷ m38 ∷ m39 ∷ m40 ∷ m41 ∷ m42 ∷ m43 ∷ m44 ∷ m45 ∷ m46 ∷
    m47 ∷ m48 ∷ m49 ∷ m50 ∷ m51 ∷ m52 ∷ m53 ∷ m54 ∷ m55 ∷ m56 ∷
    m57 ∷ m58 ∷ m59 ∷ m60 ∷ m61 ∷ m62 ∷ m63 ∷ m64 ∷ m65 ∷
    []
