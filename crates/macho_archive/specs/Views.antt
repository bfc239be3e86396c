-- What a view of an archive says.
use Rattle.macho_archive.specs.Entries.{Content}
use Rattle.macho_archive.specs.declared.archive.Member.{Member}

-- a member as its view says it
abbrev pub content_of : Member → Content
content_of m = record { name = m.name.now; place = m.place; bytes = m.bytes.now }
