-- Worked cases of items that are cut between characters: the letter é is the bytes 195 and 169.
use Rattle.std.proofs.Common.{◌≡◌, true, Some, None, [], ◌∷◌, refl}
use Rattle.std.specs.Str.{is_utf8, chars as chars_of}
use Rattle.std.proofs.lemmas.Str.{IsUtf8-nil, IsUtf8-from_is_utf8, is_utf8-from_IsUtf8}
use Rattle.wt_span.specs.Items.{char}
use Rattle.wt_page_round_trip.specs.GroupTexts.{AreOwnTexts}

-- a letter of the page, whole, behind half of one that comes from a call
letter_behind_call : AreOwnTexts [] (char (Some 0) 195 ∷ char None 195 ∷ char None 169 ∷ [])
unfolding is_utf8 chars_of lib.Utf8.encode
letter_behind_call = (IsUtf8-nil, IsUtf8-from_is_utf8 (195 ∷ 169 ∷ []) refl)

-- half of a letter of the page
half_letter : AreOwnTexts [] (char None 195 ∷ []) → ⊥
unfolding is_utf8 chars_of lib.Utf8.encode
half_letter h = let e : is_utf8 (195 ∷ []) ≡ true = is_utf8-from_IsUtf8 (195 ∷ []) h in cc

-- a call in the midst of a letter
parted_letter : AreOwnTexts [] (char None 195 ∷ char (Some 0) 97 ∷ char None 169 ∷ []) → ⊥
unfolding is_utf8 chars_of lib.Utf8.encode
parted_letter h = let e : is_utf8 (195 ∷ []) ≡ true = is_utf8-from_IsUtf8 (195 ∷ []) h.0 in cc
