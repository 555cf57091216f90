pub mod NameParts
