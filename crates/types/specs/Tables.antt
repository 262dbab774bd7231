-- The two constant tables, each by its rule.
use Rattle.std.specs.Prelude.{ℕ, Bool, false, eqb, ltb, leb}
use Rattle.types.specs.Kinds.{pick, either, both, is040, is060}

-- `exception_cycles`: 40 for 0, 1, 6; 50 for 2, 3; 38 for 5; 44 for 24 to 31; else 34
unfoldable pub exception_cycles : ℕ → ℕ
exception_cycles v =
    pick (either (ltb v 2) (eqb v 6)) 40
    (pick (either (eqb v 2) (eqb v 3)) 50
    (pick (eqb v 5) 38
    (pick (both (leb 24 v) (leb v 31)) 44 34)))

-- the length in bytes of a frame of format f, for the formats that some kind takes
unfoldable pub format_length : ℕ → ℕ
format_length f =
    pick (either (eqb f 0) (eqb f 1)) 8
    (pick (eqb f 2) 12
    (pick (eqb f 4) 16
    (pick (eqb f 7) 60
    (pick (eqb f 8) 58
    (pick (eqb f 11) 92 0)))))

-- whether kind k takes frames of format f: kinds 2, 10: 0, 8; kinds 3 to 6: 0, 1, 2, 11; kinds 7 to 9: 0, 1, 2, 7;
-- kind 11: 0, 2, 4; kind 0: 0, 2, 11; kind 1 none
unfoldable pub takes_format : ℕ → ℕ → Bool
takes_format k f =
    pick (either (eqb k 2) (eqb k 10)) (either (eqb f 0) (eqb f 8))
    (pick (both (leb 3 k) (leb k 6)) (either (leb f 2) (eqb f 11))
    (pick (is040 k) (either (leb f 2) (eqb f 7))
    (pick (is060 k) (either (eqb f 0) (either (eqb f 2) (eqb f 4)))
    (pick (eqb k 0) (either (eqb f 0) (either (eqb f 2) (eqb f 11))) false))))

-- the frame length by kind and format, 0 for a frame that is not taken
unfoldable pub frame_length : ℕ → ℕ → ℕ
frame_length k f = pick (takes_format k f) (format_length f) 0
