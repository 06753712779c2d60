-- What a folder was asked for, call after call.
use Rattle.std.proofs.Common.{◌≡◌, ℕ, ◌+◌, Option, Some, None, option_map, List, [], ◌∷◌, ◌++◌, refl, sym, ap, ◌∙◌, subst, arith, append-nil, append_assoc}
use Rattle.std.specs.Prelude.{max}
use Rattle.wt_span.specs.declared.limits.TheConstants.{PAGE_BYTES}
use Rattle.wt_transclusion.specs.Asked.{AreFirst, Asks, AsksAtMost}

-- ---- names

-- all names are the first of themselves
pub first_all : (names : Option (List (List ℕ))) → AreFirst names names
first_all None = ([], refl)
first_all (Some ns) = ([], ap Some (sym (append-nil ns)))

-- so are these names, where they are the same
pub first_is : (names same : Option (List (List ℕ))) → names ≡ same → AreFirst names same
first_is names same e = subst (AreFirst names) e (first_all names)

-- names and some more
pub first_some : (names : Option (List (List ℕ))) (more : List (List ℕ))
    → AreFirst names (option_map (λ ns. ns ++ more) names)
first_some names more = (more, refl)

-- the same names, and some more
pub first_same : (names same : Option (List (List ℕ))) (more : List (List ℕ)) → same ≡ names
    → AreFirst same (option_map (λ ns. ns ++ more) names)
first_same names same more e = (more, ap (option_map (λ ns. ns ++ more)) (sym e))

joined : (names : Option (List (List ℕ))) (xs ys : List (List ℕ))
    → option_map (λ ns. ns ++ ys) (option_map (λ ns. ns ++ xs) names)
    ≡ option_map (λ ns. ns ++ (xs ++ ys)) names
joined None xs ys = refl
joined (Some ns) xs ys = ap Some (append_assoc ns xs ys)

-- the first of some names that are the first of others are the first of those
pub first_then : (a b c : Option (List (List ℕ))) → AreFirst a b → AreFirst b c → AreFirst a c
first_then a b c f g = (f.0 ++ g.0, g.1 ∙ ap (option_map (λ ns. ns ++ g.0)) f.1 ∙ joined a f.0 g.0)

-- ---- bytes

most_none : (most : ℕ) (told : Option ℕ) → AsksAtMost most told told
most_none most None = tt
most_none most (Some n) = omega arith

most_one : (most : ℕ) (told : Option ℕ) → AsksAtMost most told (option_map (λ before. max before most) told)
most_one most None = tt
most_one most (Some n) = omega arith

most_then : (most : ℕ) (a b c : Option ℕ) → AsksAtMost most a b → AsksAtMost most b c → AsksAtMost most a c
most_then most None b c f g = tt
most_then most (Some x) None c f g = absurd f
most_then most (Some x) (Some y) None f g = absurd g
most_then most (Some x) (Some y) (Some z) f g = omega (arith, f, g)

-- ---- both

-- a folder that isn't asked
pub asks_none : (names : Option (List (List ℕ))) (most : Option ℕ) → Asks names names most most
asks_none names most = record { names = first_all names; most = most_none (PAGE_BYTES + 1) most }

-- a folder that answers one name more, for so many bytes
pub asks_one : (name : List ℕ) (names after : Option (List (List ℕ))) (most now : Option ℕ)
    → after ≡ option_map (λ ns. ns ++ name ∷ []) names
    → now ≡ option_map (λ before. max before (PAGE_BYTES + 1)) most → Asks names after most now
asks_one name names after most now e f = record {
  names = (name ∷ [], e);
  most = subst (AsksAtMost (PAGE_BYTES + 1) most) (sym f) (most_one (PAGE_BYTES + 1) most);
}

-- one call after another
pub asks_then : (a b c : Option (List (List ℕ))) (x y z : Option ℕ) → Asks a b x y → Asks b c y z
    → Asks a c x z
asks_then a b c x y z f g =
    record { names = first_then a b c f.names g.names; most = most_then (PAGE_BYTES + 1) x y z f.most g.most }
