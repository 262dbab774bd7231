-- What the log says after some events, and which events flush, acknowledge and release add.
use Rattle.std.specs.Prelude.{ℕ, ◌%◌, ◌^◌, ◌≡◌, List, [], ◌∷◌, ◌++◌, length}
use Rattle.memory.specs.Log.{note_log, counted}
use Rattle.memory.specs.World.{World}

-- the words of an event
abbrev pub words : ℕ → ℕ → ℕ → List ℕ
words c a v = c ∷ a ∷ v ∷ []

pub record Event : Type 0 where
  pub code : ℕ
  pub place : ℕ
  pub value : ℕ

-- the log that the events leave, the last event first; and the words that they spell, in their order
unfoldable pub replay : List ℕ → List Event → List ℕ
replay l [] = l
replay l (e ∷ es) = note_log (length es % 2 ^ 32) (replay l es) e.code e.place e.value

unfoldable pub spell : List Event → List ℕ
spell [] = []
spell (e ∷ es) = spell es ++ words e.code e.place e.value

-- the events es, and no others, were logged on the way to w, into a log that held l
pub record Spells (l : List ℕ) (es : List Event) (w : World) : Type 0 where
  pub count : w.core.bus.events ≡ length es % 2 ^ 32
  pub log : w.log ≡ replay l es

-- from w to x just this event was logged
pub record Logged (w x : World) (c a v : ℕ) : Type 0 where
  pub log : x.log ≡ note_log w.core.bus.events w.log c a v
  pub bus : x.core.bus ≡ counted w.core.bus
