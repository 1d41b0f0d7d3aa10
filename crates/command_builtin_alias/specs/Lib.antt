pub mod BuiltinAlias
