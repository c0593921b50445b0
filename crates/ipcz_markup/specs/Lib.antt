pub mod Markup
