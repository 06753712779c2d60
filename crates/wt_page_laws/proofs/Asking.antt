-- Names that were asked, and the most bytes.
use Rattle.std.proofs.Common.{arith, ◌≡◌, ◌↔◌, ℕ, List, [], ◌++◌, Option, Some, None, length, take, drop, sym, ap, ◌∙◌, append_assoc}
use Rattle.std.specs.Prelude.{option_map}
use Rattle.std.proofs.lemmas.List.{take-append-drop}
use Rattle.std.proofs.Math.Seq.{take-append_seam}
use Rattle.wt_transclusion.specs.Asked.{AreFirst, Asks, AsksAtMost}

abbrev Names : Type 0
Names = List (List ℕ)

pub told : (names all : Names) → (AreFirst (Some names) (Some all)) ↔ (take (length names) all ≡ names)
told names all = (
  λ f. let e : all ≡ names ++ f.0 = (let g = f.1 in cc) in ap (take (length names)) e ∙ take-append_seam names f.0,
  λ e. (drop (length names) all, ap Some (sym (take-append-drop (length names) all) ∙ ap (λ (l : Names). l ++ drop (length names) all) e)),
)

first_joined : (a b c : Option Names) → AreFirst a b → AreFirst b c → AreFirst a c
first_joined None b c f g = let e : c ≡ None = g.1 ∙ ap (option_map (λ (ns : Names). ns ++ g.0)) f.1 in ([], e)
first_joined (Some ns) b c f g =
    let e : c ≡ Some ((ns ++ f.0) ++ g.0) = g.1 ∙ ap (option_map (λ (ns : Names). ns ++ g.0)) f.1 in
    (f.0 ++ g.0, e ∙ ap Some (append_assoc ns f.0 g.0))

most_joined : (most : ℕ) (m n o : Option ℕ) → AsksAtMost most m n → AsksAtMost most n o → AsksAtMost most m o
most_joined most None n o f g = tt
most_joined most (Some b) None o f g = absurd f
most_joined most (Some b) (Some a) None f g = absurd g
most_joined most (Some b) (Some a) (Some c) f g = omega arith

pub joined : (a b c : Option Names) → (m n o : Option ℕ) → Asks a b m n → Asks b c n o → Asks a c m o
joined a b c m n o f g = record { names = first_joined a b c f.names g.names; most = most_joined _ m n o f.most g.most }
