-- What the parts are after a row is written, made room for or taken out.
use Rattle.std.specs.Prelude.{List, [], ◌∷◌, ℕ, ◌+◌, ◌*◌, ◌-◌, length}
use Rattle.cells.specs.Part.{part, put}
use Rattle.pipe_log.specs.Numbers.{queue_number}
use Rattle.rules.specs.Table.{Held}

-- the numbers of a key's row
unfoldable pub numbers_of : List ℕ → Held → List ℕ
numbers_of k h = length k ∷ length h.value ∷ queue_number h.file.queue ∷ h.file.seq ∷ []

-- row i holds the key: of its bytes as many are written as the key and the value have
unfoldable pub written_rows : ℕ → List ℕ → Held → List ℕ → List ℕ
written_rows i k h rows = put rows (i * 4) (numbers_of k h)

unfoldable pub written_bytes : ℕ → List ℕ → Held → List ℕ → List ℕ
written_bytes i k h bs = put (put bs (i * 64) k) (i * 64 + 32) h.value

-- the rows from row i of n moved up by one, in rows of w
unfoldable pub opened : ℕ → ℕ → ℕ → List ℕ → List ℕ
opened w n i l = put l (i * w + w) (part (i * w) ((n - i) * w) l)

-- the rows after row i of n moved down by one
unfoldable pub closed : ℕ → ℕ → ℕ → List ℕ → List ℕ
closed w n i l = put l (i * w) (part (i * w + w) ((n - (i + 1)) * w) l)
