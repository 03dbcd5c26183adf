pub mod Text
pub mod Laying
pub mod Sample
