-- Two contents beside the nodes of a paragraph, which are the same but for their first letter: what is typed is a letter, and a word of one letter beside each node.
use Rattle.std.proofs.Common.{arith, ◌≡◌, inl, ℕ, Bool, true, false, List, [], ◌∷◌, ◌++◌, refl, sym, ap, ◌∙◌, subst}
use Rattle.std.specs.Prelude.{◌&&◌, not, encode_utf8}
use Rattle.std.proofs.lemmas.Str.{encode_ascii}
use Rattle.wt_tree.specs.declared.edit_shape.Place.TheVariants as place
use Rattle.wt_guards.specs.Content.{ContentSign, Thing, letter, thing}
use Rattle.wt_guards.specs.Guards.{Setting, nowiki_if, is_guarded, is_between_guard, is_start_guard, is_end_guard, is_blank_guard, sign_written, spelled_from, spelled}
use Rattle.wt_guards.specs.Letters.{is_escaped}
use Rattle.wt_guards.specs.Table.{line_start_hazard}
use Rattle.wt_expand.specs.Work.{Pages}
use Rattle.wt_text_edit_laws.specs.TextBlocks.{a_paragraph}
use Rattle.wt_beside_laws.specs.Lines.{AreCharacters}
use Rattle.wt_beside_laws.specs.Stood.{things}
use Rattle.wt_called_edit_laws.specs.CallingBlocks.{IsNewContentIn}
use Rattle.wt_called_edit_laws.specs.CallingEdits.{TakesLetters}
use Rattle.wt_called_edit_laws.specs.InPieces.{pieces_source, AreInPieces}
use Rattle.wt_called_edit_laws.specs.PageThings.{ArePageThings, ThingsStay, thing_sources}
use Rattle.wt_called_edit_laws.specs.WrittenAnew.{node_sources, StayButForOthers, IsWrittenBeside, HoldsAnywhere}
use Rattle.wt_called_edit_laws.proofs.Written.AllHeld.{written_anywhere}
use Rattle.wt_called_edit_laws.proofs.Written.FromPage.{beside_these, page_takes}
use Rattle.wt_called_edit_laws.proofs.Written.NewContents.{written_anew}

-- ---- an `x` beside each node

abbrev pub spread : List Thing → List ContentSign
spread [] = letter 120 ∷ []
spread (t ∷ ts) = letter 120 ∷ thing t ∷ spread ts

abbrev pub begun : ℕ → List Thing → List ContentSign
begun c ts = letter c ∷ spread ts

-- what is written behind a node doesn't hang on what is before the letter on its left
spread_same : (s : Setting) (t : Thing) (us vs : List ContentSign) (ts : List Thing)
    → spelled_from s (thing t ∷ letter 120 ∷ us) (spread ts) ≡ spelled_from s (thing t ∷ letter 120 ∷ vs) (spread ts)
unfolding is_guarded is_between_guard is_start_guard is_end_guard is_blank_guard is_escaped
spread_same s t us vs [] = refl
spread_same s t us vs (u ∷ ts) =
    ap (λ (bs : List ℕ).
    nowiki_if (is_guarded s (thing t ∷ letter 120 ∷ us) (letter 120 ∷ thing u ∷ spread ts))
    ++ (sign_written s (thing t ∷ letter 120 ∷ us) (letter 120) (thing u ∷ spread ts)
    ++ (nowiki_if (is_guarded s (letter 120 ∷ thing t ∷ letter 120 ∷ us) (thing u ∷ spread ts)) ++ (u.source ++ bs))))
    (spread_same s u (thing t ∷ letter 120 ∷ us) (thing t ∷ letter 120 ∷ vs) ts)

-- nor on the first letter
rest_same : (s : Setting) (ts : List Thing) → spelled_from s (letter 97 ∷ []) (spread ts) ≡ spelled_from s (letter 98 ∷ []) (spread ts)
unfolding is_guarded is_between_guard is_start_guard is_end_guard is_blank_guard is_escaped
rest_same s [] = refl
rest_same s (t ∷ ts) =
    ap (λ (bs : List ℕ).
    nowiki_if (is_guarded s (letter 97 ∷ []) (letter 120 ∷ thing t ∷ spread ts))
    ++ (sign_written s (letter 97 ∷ []) (letter 120) (thing t ∷ spread ts)
    ++ (nowiki_if (is_guarded s (letter 120 ∷ letter 97 ∷ []) (thing t ∷ spread ts)) ++ (t.source ++ bs))))
    (spread_same s t (letter 97 ∷ []) (letter 98 ∷ []) ts)

-- ---- the first letter is as it is written

none_of : (v : Bool) → (v && false) ≡ false
none_of true = refl
none_of false = refl

first_a : (s : Setting) (ts : List Thing) → is_guarded s [] (begun 97 ts) ≡ false
unfolding is_guarded is_between_guard is_start_guard is_end_guard is_blank_guard line_start_hazard
first_a s ts = none_of (not s.within)

first_b : (s : Setting) (ts : List Thing) → is_guarded s [] (begun 98 ts) ≡ false
unfolding is_guarded is_between_guard is_start_guard is_end_guard is_blank_guard line_start_hazard
first_b s ts = none_of (not s.within)

as_a : (s : Setting) (ts : List Thing) → sign_written s [] (letter 97) (spread ts) ≡ encode_utf8 97
unfolding is_escaped
as_a s ts = refl

as_b : (s : Setting) (ts : List Thing) → sign_written s [] (letter 98) (spread ts) ≡ encode_utf8 98
unfolding is_escaped
as_b s ts = refl

abbrev pub rest_of : Setting → List Thing → List ℕ
rest_of s ts = spelled_from s (letter 97 ∷ []) (spread ts)

pub spelled_a : (s : Setting) (ts : List Thing) → spelled s (begun 97 ts) ≡ 97 ∷ rest_of s ts
spelled_a s ts =
    ap (λ (v : Bool). nowiki_if v ++ (sign_written s [] (letter 97) (spread ts) ++ rest_of s ts)) (first_a s ts)
    ∙ ap (λ (bs : List ℕ). bs ++ rest_of s ts) (as_a s ts ∙ encode_ascii 97 (omega arith))

pub spelled_b : (s : Setting) (ts : List Thing) → spelled s (begun 98 ts) ≡ 98 ∷ rest_of s ts
spelled_b s ts =
    ap (λ (v : Bool). nowiki_if v ++ (sign_written s [] (letter 98) (spread ts) ++ spelled_from s (letter 98 ∷ []) (spread ts))) (first_b s ts)
    ∙ ap (λ (bs : List ℕ). bs ++ spelled_from s (letter 98 ∷ []) (spread ts)) (as_b s ts ∙ encode_ascii 98 (omega arith))
    ∙ ap (λ (bs : List ℕ). 98 ∷ bs) (sym (rest_same s ts))

-- ---- such a content

pub spread_characters : (ts : List Thing) → AreCharacters (spread ts)
spread_characters [] = (refl, tt)
spread_characters (t ∷ ts) = (refl, spread_characters ts)

pub things_spread : (ts : List Thing) → things (spread ts) ≡ ts
things_spread [] = refl
things_spread (t ∷ ts) = ap (λ (us : List Thing). t ∷ us) (things_spread ts)

all_stay : (pages : Pages) (ts : List Thing) → ThingsStay pages ts ts
all_stay pages [] = tt
all_stay pages (t ∷ ts) = inl (refl, all_stay pages ts)

pub stay_spread : (pages : Pages) (ts : List Thing) → ThingsStay pages ts (things (spread ts))
stay_spread pages ts = subst (ThingsStay pages ts) (sym (things_spread ts)) (all_stay pages ts)

pub a_beside : (pages : Pages) (s : Setting) (ts : List Thing) → s.within ≡ false → ArePageThings pages ts → IsWrittenBeside pages s (begun 97 ts)
a_beside pages s ts w h =
    beside_these pages ts s (begun 97 ts) w (refl, spread_characters ts) tt h (stay_spread pages ts)

pub b_beside : (pages : Pages) (s : Setting) (ts : List Thing) → s.within ≡ false → ArePageThings pages ts → IsWrittenBeside pages s (begun 98 ts)
b_beside pages s ts w h =
    beside_these pages ts s (begun 98 ts) w (refl, spread_characters ts) tt h (stay_spread pages ts)

-- ---- so letters may be typed

pub takes : (pages : Pages) (q : List ℕ) (s : Setting) (ts : List Thing) → IsWrittenBeside pages s (begun 97 ts) → IsWrittenBeside pages s (begun 98 ts)
    → IsNewContentIn pages a_paragraph q (spelled s (begun 97 ts)) → IsNewContentIn pages a_paragraph q (spelled s (begun 98 ts))
    → TakesLetters pages a_paragraph q
takes pages q s ts a b g h = record {
  rest = rest_of s ts;
  one = subst (IsNewContentIn pages a_paragraph q) (spelled_a s ts) g;
  other = subst (IsNewContentIn pages a_paragraph q) (spelled_b s ts) h;
  one_holds = subst (HoldsAnywhere pages a_paragraph) (spelled_a s ts) (written_anywhere pages s (begun 97 ts) a);
  other_holds = subst (HoldsAnywhere pages a_paragraph) (spelled_b s ts) (written_anywhere pages s (begun 98 ts) b);
}

abbrev in_paragraph : Setting
in_paragraph = record { within = false; place = place.Paragraph; source = [] }

pub page_letters : (pages : Pages) (bs : List (List ℕ)) (olds : List Thing) → AreInPieces pages bs → StayButForOthers pages bs (thing_sources olds)
    → ArePageThings pages olds → TakesLetters pages a_paragraph (pieces_source bs)
page_letters pages bs olds p q h =
    takes pages (pieces_source bs) in_paragraph olds (a_beside pages in_paragraph olds refl h) (b_beside pages in_paragraph olds refl h)
    (page_takes pages bs olds in_paragraph (begun 97 olds) p q h refl (refl, spread_characters olds) tt (stay_spread pages olds))
    (page_takes pages bs olds in_paragraph (begun 98 olds) p q h refl (refl, spread_characters olds) tt (stay_spread pages olds))

-- again, where other texts were typed
pub sources_spread : (ts : List Thing) → node_sources (spread ts) ≡ thing_sources ts
sources_spread [] = refl
sources_spread (t ∷ ts) = ap (λ (bs : List (List ℕ)). t.source ∷ bs) (sources_spread ts)

pub sources_things : (signs : List ContentSign) → node_sources signs ≡ thing_sources (things signs)
sources_things [] = refl
sources_things (letter c ∷ after) = sources_things after
sources_things (thing t ∷ after) = ap (λ (bs : List (List ℕ)). t.source ∷ bs) (sources_things after)

pub same_stay : (pages : Pages) (bs : List (List ℕ)) → StayButForOthers pages bs bs
same_stay pages [] = tt
same_stay pages (b ∷ bs) = inl (refl, same_stay pages bs)

pub letters_again : (pages : Pages) (s : Setting) (signs : List ContentSign) → IsWrittenBeside pages s signs → ArePageThings pages (things signs)
    → TakesLetters pages a_paragraph (spelled s signs)
letters_again pages s signs w h =
    let ts : List Thing = things signs in
    let within : s.within ≡ false = let c = w.called in c.of_block in
    let stay : StayButForOthers pages (node_sources signs) (node_sources (spread ts)) =
    subst (StayButForOthers pages (node_sources signs)) (sources_things signs ∙ sym (sources_spread ts)) (same_stay pages (node_sources signs)) in
    let a : IsWrittenBeside pages s (begun 97 ts) = a_beside pages s ts within h in
    let b : IsWrittenBeside pages s (begun 98 ts) = b_beside pages s ts within h in
    takes pages (spelled s signs) s ts a b (written_anew pages s s signs (begun 97 ts) w a stay) (written_anew pages s s signs (begun 98 ts) w b stay)
