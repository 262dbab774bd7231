-- The bytes of the input, one at a time: the line that is not ended is kept.
use Rattle.std.specs.Prelude.{ℕ, ◌+◌, ◌≤◌, ◌<◌, ◌≡◌, refl, List, [], ◌∷◌, ◌++◌, length, take}
use Rattle.std.proofs.Common.{sym, ap, ◌∙◌, add-one, lt-ltb, le-ltb, eq-eqb, ne_eqb, get_or}
use lib.Seq.{take-suc}
use Rattle.memory.specs.World.{World}
use Rattle.sessions.specs.Sessions.{Session, session, step}
use Rattle.sessions.specs.Input.{Under, under, kept, take1, taken_all, finished}

-- a line feed, a byte that is kept, and one past 81
pub takes_feed : (u v : Under) (b : ℕ) → b ≡ 10 → v ≡ under (step u.session u.line) [] → v ≡ take1 u b
unfolding take1
takes_feed u v b h e = rw (eq-eqb b 10 h) e

pub takes_byte : (q : Session) (l k : List ℕ) (b : ℕ) → ¬ (b ≡ 10) → length l < 81 → k ≡ l ++ (b ∷ []) → under q k ≡ take1 (under q l) b
unfolding take1 kept
takes_byte q l k b h s e = rw (ne_eqb b 10 h, lt-ltb (length l) 81 s) (ap (under q) e)

pub takes_none : (q : Session) (l : List ℕ) (b : ℕ) → ¬ (b ≡ 10) → 81 ≤ length l → under q l ≡ take1 (under q l) b
unfolding take1 kept
takes_none q l b h s = rw (ne_eqb b 10 h, le-ltb (length l) 81 s)

-- no byte is taken, and one more
pub all_start : (w : World) (l b bs : List ℕ) → b ≡ [] → under (session w b) l ≡ taken_all (under (session w []) l) (take 0 bs)
unfolding taken_all
all_start w l b bs e = ap (λ (c : List ℕ). under (session w c) l) e

after_one : (u : Under) (xs : List ℕ) (b : ℕ) → taken_all u (xs ++ (b ∷ [])) ≡ take1 (taken_all u xs) b
unfolding taken_all
after_one u [] b = refl
after_one u (x ∷ xs) b = after_one (take1 u x) xs b

pub all_goes : (u v w : Under) (bs : List ℕ) (i : ℕ) → i < length bs → v ≡ taken_all u (take i bs) → w ≡ take1 v (get_or bs i 0) → w ≡ taken_all u (take (i + 1) bs)
all_goes u v w bs i h e f =
    f ∙ ap (λ (x : Under). take1 x (get_or bs i 0)) e
    ∙ sym (ap (λ (k : ℕ). taken_all u (take k bs)) (add-one i) ∙ ap (taken_all u) (take-suc bs i 0 h) ∙ after_one u (take i bs) (get_or bs i 0))

-- the end of the input
pub end_none : (w : World) (l b : List ℕ) → b ≡ [] → length l ≡ 0 → session w b ≡ finished (under (session w []) l)
unfolding finished
end_none w l b e h = rw (eq-eqb (length l) 0 h) (ap (session w) e)

pub end_some : (w : World) (l b k : List ℕ) (r : Session) → b ≡ [] → ¬ (length l ≡ 0) → under r k ≡ under (step (session w b) l) [] → r ≡ finished (under (session w []) l)
unfolding finished
end_some w l b k r e h f = rw (ne_eqb (length l) 0 h) (ap (λ (u : Under). u.session) f ∙ ap (λ (c : List ℕ). step (session w c) l) e)
