-- The laws of the spelling.
use Rattle.std.proofs.Common.{◌≡◌, ℕ, Bool, true, false, refl, sym, ap, ◌∙◌, List, [], ◌∷◌, ◌++◌, append-nil, map}
use Rattle.std.specs.Prelude.{encode_utf8}
use Rattle.std.specs.List.{flat_map}
use Rattle.std.specs.Str.{chars}
use Rattle.wt_tree.specs.declared.edit_shape.Place.{Place}
use Rattle.wt_guards.specs.Content.{ContentSign, letter, thing, letters}
use Rattle.wt_guards.specs.Letters.{is_bracket, is_escaped, reference, written_by, written}
use Rattle.wt_guards.specs.Guards.{Setting, nowiki, nowiki_if, is_guarded, sign_written, spelled_from, spelled}
use Rattle.wt_guards.specs.WrittenLaws.{itself, IsAsItIs, IsQuiet, guard, referred, plain, Pieces}

as_it_is : (s : Setting) (before : List ContentSign) (sign : ContentSign) (after : List ContentSign) → IsAsItIs s before sign after → sign_written s before sign after ≡ itself sign
as_it_is s before (letter c) after e = ap (λ b. written_by b c) e
as_it_is s before (thing t) after e = refl

-- Where nothing is put and no character is a reference, the signs are written as they are.
pub quiet_from : (s : Setting) (before signs : List ContentSign) → IsQuiet s before signs → spelled_from s before signs ≡ flat_map itself signs
quiet_from s before [] q = ap nowiki_if q
quiet_from s before (sign ∷ after) q =
    ap (λ b. nowiki_if b ++ (sign_written s before sign after ++ spelled_from s (sign ∷ before) after)) q.0
    ∙ ap (λ w. w ++ spelled_from s (sign ∷ before) after) (as_it_is s before sign after q.1)
    ∙ ap (λ r. itself sign ++ r) (quiet_from s (sign ∷ before) after q.2)

-- ---- a text alone

-- a bracket is always a reference
bracket_escaped : (within : Bool) (p : Place) (before : List ContentSign) (c : ℕ) (after : List ContentSign) → is_bracket c ≡ true → is_escaped within p before c after ≡ true
unfolding is_escaped
bracket_escaped within p before c after e = rw e refl

not_bracket : (b e : Bool) → (b ≡ true → e ≡ true) → e ≡ false → b ≡ false
not_bracket true true h f = cc f
not_bracket true false h f = sym (h refl)
not_bracket false e h f = refl

no_pieces : Pieces [] []
no_pieces = record { pieces = []; written = refl; harmless = tt; shows = refl }

end_guard : (g : Bool) → Pieces [] (nowiki_if g)
end_guard true = record { pieces = guard ∷ []; written = sym (append-nil nowiki); harmless = (tt, tt); shows = refl }
end_guard false = no_pieces

put_guard : (g : Bool) (text bytes : List ℕ) → Pieces text bytes → Pieces text (nowiki_if g ++ bytes)
put_guard true text bytes p = record { pieces = guard ∷ p.pieces; written = ap (λ r. nowiki ++ r) p.written; harmless = (tt, p.harmless); shows = p.shows }
put_guard false text bytes p = p

put_letter : (e : Bool) (c : ℕ) (text bytes : List ℕ) → (e ≡ false → is_bracket c ≡ false) → Pieces text bytes → Pieces (c ∷ text) (written_by e c ++ bytes)
put_letter true c text bytes h p = record {
  pieces = referred c ∷ p.pieces;
  written =
      ap (λ r. reference c ++ r) p.written;
  harmless = (tt, p.harmless);
  shows = ap (λ r. c ∷ r) p.shows;
}
put_letter false c text bytes h p = record {
  pieces = plain c ∷ p.pieces;
  written =
      ap (λ r. encode_utf8 c ++ r) p.written;
  harmless = (h refl, p.harmless);
  shows = ap (λ r. c ∷ r) p.shows;
}

pieces_from : (s : Setting) (before : List ContentSign) (cs : List ℕ) → Pieces cs (spelled_from s before (map letter cs))
pieces_from s before [] = end_guard (is_guarded s before [])
pieces_from s before (c ∷ cs) =
    let after = map letter cs in
    let e = is_escaped s.within s.place before c after in
    put_guard (is_guarded s before (letter c ∷ after)) (c ∷ cs) (written_by e c ++ spelled_from s (letter c ∷ before) after)
    (put_letter e c cs (spelled_from s (letter c ∷ before) after)
    (λ f. not_bracket (is_bracket c) e (bracket_escaped s.within s.place before c after) f) (pieces_from s (letter c ∷ before) cs))

pub text_pieces : (s : Setting) (text : List ℕ) → Pieces (chars text) (spelled s (letters text))
text_pieces s text = pieces_from s [] (chars text)
