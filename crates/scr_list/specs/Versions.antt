-- The versions of round lists. Their numbers, and the line that tells the second, are our own choice.
use Rattle.std.specs.Prelude.{ℕ, Bool, true, false, ◌||◌, if◌then◌else◌, nat_eq, List, codes, bytes_eq}
use Rattle.std.specs.List.{starts_with}
use Rattle.scr_list.specs.declared.version.Version.{Version}

-- the first version, whose lists tell none
abbrev pub version_1 : Version
version_1 = record { most_bytes = 4096; most_rounds = 64; has_version_line = false; takes_names = false }

-- the second, whose lists begin with a line that tells it, and whose rounds may have names
abbrev pub version_2 : Version
version_2 = record { most_bytes = 16384; most_rounds = 256; has_version_line = true; takes_names = true }

-- that line
abbrev pub version_line : List ℕ
version_line = codes "version 2"

-- The bytes begin with that line: behind it stands nothing, a line feed, or a carriage return and a line feed.
abbrev pub begins_with_version_line : List ℕ → Bool
begins_with_version_line bytes =
    bytes_eq bytes version_line || starts_with nat_eq bytes (codes "version 2\n") || starts_with nat_eq bytes (codes "version 2\r\n")

-- the version of a list
unfoldable pub version_of : List ℕ → Version
version_of bytes = if begins_with_version_line bytes then version_2 else version_1
