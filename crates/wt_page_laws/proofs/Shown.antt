-- What elements show.
use Rattle.std.proofs.Common.{arith, ◌≡◌, suc, ◌≤◌, refl, ap, ◌∙◌, append-nil}
use Rattle.wt_tree.specs.Elements.{as_element, as_elements, or_empty_span}
use Rattle.wt_tree.specs.Plain.{Plain, Plains, text, element, ended, along}
use Rattle.wt_page_laws.specs.Showing.{shown_of, shown_of_all, count, IsElement, AreElements}

is_element : (p : Plain) → IsElement (as_element p)
is_element (text bs) = tt
is_element (element f qs) = tt

pub are_elements : (ps : Plains) → AreElements (as_elements ps)
are_elements ended = tt
are_elements (along p ps) = (is_element p, are_elements ps)

shows : (p : Plain) → shown_of (as_element p) ≡ shown_of p
shows (text bs) = append-nil bs
shows (element f qs) = refl

all_show : (ps : Plains) → shown_of_all (as_elements ps) ≡ shown_of_all ps
all_show ended = refl
all_show (along p ps) = rw (shows p, all_show ps) refl

or_shows : (ps : Plains) → shown_of_all (or_empty_span ps) ≡ shown_of_all ps
or_shows ended = refl
or_shows (along p ps) = refl

pub show_same : (ps : Plains) → shown_of_all (or_empty_span (as_elements ps)) ≡ shown_of_all ps
show_same ps = or_shows (as_elements ps) ∙ all_show ps

pub as_many : (ps : Plains) → count (as_elements ps) ≡ count ps
as_many ended = refl
as_many (along p ps) = ap suc (as_many ps)

stays : (p : Plain) → IsElement p → as_element p ≡ p
stays (text bs) h = absurd h
stays (element f qs) h = refl

pub all_stay : (ps : Plains) → AreElements ps → as_elements ps ≡ ps
all_stay ended h = refl
all_stay (along p ps) h = rw (stays p h.0, all_stay ps h.1) refl

pub some_stands : (ps : Plains) → (count ps ≡ 0 → or_empty_span ps ≡ or_empty_span ended) × (1 ≤ count (or_empty_span ps))
some_stands ended = (λ e. refl, omega arith)
some_stands (along p ps) = (λ e. absurd (omega arith), omega arith)
