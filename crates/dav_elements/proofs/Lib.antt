mod TagAttrs
mod Seen
mod SpaceMaps
