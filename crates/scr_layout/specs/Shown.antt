-- Texts that are shown in one line.
use Rattle.std.specs.Prelude.{ℕ, ◌≤◌, ◌≢◌, List, All, length}

-- a byte, or a character, is no control as a line feed is one
abbrev pub IsNoControl : ℕ → Type 0
IsNoControl byte = (32 ≤ byte) × (byte ≢ 127)

-- no byte of a text is a control
abbrev pub HasNoControl : List ℕ → Type 0
HasNoControl = All IsNoControl

-- a word: one to seven bytes, none of them a space or a control
pub record IsPlainWord (word : List ℕ) : Type 0 where
  pub some : 1 ≤ length word
  pub short : length word ≤ 7
  pub plain : All (λ byte. (33 ≤ byte) × (byte ≢ 127)) word
