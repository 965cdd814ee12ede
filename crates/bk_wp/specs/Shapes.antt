-- Which of the forms a substitution is made of.
use Rattle.bk_gsl.specs.Substitution.{Substitution, skip, assign, pre, guard, choice, if_else, any, seq, par, assert, loop}

-- no locals, no x :(P), no loop and no ||
abbrev pub HasNoBinder : Substitution → Type 0
HasNoBinder skip = Unit {0}
HasNoBinder (assign ps) = Unit {0}
HasNoBinder (pre p s) = HasNoBinder s
HasNoBinder (guard p s) = HasNoBinder s
HasNoBinder (choice s t) = HasNoBinder s × HasNoBinder t
HasNoBinder (if_else p s t) = HasNoBinder s × HasNoBinder t
HasNoBinder (seq s t) = HasNoBinder s × HasNoBinder t
HasNoBinder (assert p s) = HasNoBinder s
HasNoBinder _ = ⊥

-- no loop and no ||
abbrev pub HasNoLoop : Substitution → Type 0
HasNoLoop (pre p s) = HasNoLoop s
HasNoLoop (guard p s) = HasNoLoop s
HasNoLoop (choice s t) = HasNoLoop s × HasNoLoop t
HasNoLoop (if_else p s t) = HasNoLoop s × HasNoLoop t
HasNoLoop (any zs s) = HasNoLoop s
HasNoLoop (seq s t) = HasNoLoop s × HasNoLoop t
HasNoLoop (assert p s) = HasNoLoop s
HasNoLoop (loop p s i v) = ⊥
HasNoLoop (par s t) = ⊥
HasNoLoop _ = Unit {0}
